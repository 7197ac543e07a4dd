mod Ascii
mod JsonLemmas
mod Rows
