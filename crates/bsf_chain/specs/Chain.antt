-- Chains of bitstream filters.
use Rattle.std.specs.Prelude.{Bool, true, false, List}
use Rattle.std.specs.List.{list_all}
use Rattle.bsf_chain.specs.declared.filter.Filter.{Filter}
use Rattle.bsf_chain.specs.declared.filter.Filter.TheVariants.{ToAnnexB, FilterUnits, DumpExtra, Null, AacAdts}

-- whether what a filter leaves of a native packet is native and no longer
abbrev pub is_keeper : Filter → Bool
is_keeper ToAnnexB = false
is_keeper (FilterUnits keep) = true
is_keeper (DumpExtra all) = false
is_keeper Null = true
is_keeper AacAdts = false

abbrev pub are_keepers : List Filter → Bool
are_keepers filters = list_all is_keeper filters
