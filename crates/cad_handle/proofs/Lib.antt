mod KeptValues
mod NumberFacts
mod Values
