mod CheckLemmas
mod CommandLineLemmas
mod PartTexts
