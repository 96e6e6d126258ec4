mod DepthGiven
mod JobFacts
mod ScriptFacts
