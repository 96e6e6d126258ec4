mod BatchFacts
mod FileFacts
