-- How much memory is enough, in rows.
use Rattle.std.proofs.Common.{◌≡◌, Some, None, refl}
use Rattle.tlsf_class.specs.Classes.{class, need, low}
use Rattle.tlsf_class.specs.Rounding.{rounded}
use Rattle.tlsf_heap.specs.Sizing.{class_size, sure_pool}

-- a request at an alignment above the unit asks for its bytes, rounded up, and for the alignment less the unit
of_a_request : class_size 1 100 ≡ Some 112
unfolding class need low rounded
of_a_request = refl

aligned : class_size 64 100 ≡ Some 160
unfolding class need low rounded
aligned = refl

at_no_alignment : class_size 24 100 ≡ None
unfolding class need low rounded
at_no_alignment = refl

-- 100 + 2 (112 - 16) bytes may refuse, which are 292: the sure pool is the next multiple of 16
in_whole_units : sure_pool 1 100 (Some 112) ≡ Some 304
in_whole_units = refl

-- bytes in whole units, as requests have them: a unit more than may refuse
a_unit_more : sure_pool 1 112 (Some 112) ≡ Some 320
a_unit_more = refl

-- no pool is so large, or there can't be as many records
too_large : sure_pool 1 0 (Some 1056964608) ≡ None
too_large = refl

too_many : sure_pool 32767 0 (Some 16) ≡ None
too_many = refl

as_many_as_can_be : sure_pool 32766 0 (Some 16) ≡ Some 16
as_many_as_can_be = refl
