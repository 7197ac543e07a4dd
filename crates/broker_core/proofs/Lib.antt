mod DeskLaws
mod MoveLaws
mod OperatorLemmas
mod SaleLaws
mod StockLemmas
mod Rows
