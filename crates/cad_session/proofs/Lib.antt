mod Outcomes
mod StepFacts
mod PlainFacts
