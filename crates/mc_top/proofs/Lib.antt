mod ReadLemmas
mod SayLemmas
mod RefusedLemmas
mod ProxyLemmas
mod DoorLemmas
pub mod CompleteLemmas
