-- What is told of lines, and of what is held: diagnostics, sites, texts.
pub mod DiagnosticLemmas
pub mod SiteLemmas
pub mod SiteRows
pub mod TextLemmas
pub mod ToldLines
