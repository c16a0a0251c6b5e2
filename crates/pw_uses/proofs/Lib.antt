mod HostLemmas
mod SumLemmas
