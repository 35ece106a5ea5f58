-- The definitions at worked sizes.
use Rattle.std.proofs.Common.{◌≡◌, refl, Some, None}
use Rattle.tlsf_class.specs.Classes.{low, class, need}
use Rattle.tlsf_class.specs.Mapping.{mapped}
use Rattle.tlsf_class.specs.Rounding.{rounded, round}

class_of_16 : class 16 ≡ 1
unfolding low class
class_of_16 = refl

class_of_496 : class 496 ≡ 31
unfolding low class
class_of_496 = refl

class_of_512 : class 512 ≡ 32
unfolding low class
class_of_512 = refl

class_of_1008 : class 1008 ≡ 63
unfolding low class
class_of_1008 = refl

class_of_1024 : class 1024 ≡ 64
unfolding low class
class_of_1024 = refl

class_of_the_greatest_size : class 1073741808 ≡ 703
unfolding low class
class_of_the_greatest_size = refl

class_of_688 : class 688 ≡ 43
unfolding low class
class_of_688 = refl

class_of_912 : class 912 ≡ 57
unfolding low class
class_of_912 = refl

class_of_112 : class 112 ≡ 7
unfolding low class
class_of_112 = refl

class_of_816 : class 816 ≡ 51
unfolding low class
class_of_816 = refl

class_of_896 : class 896 ≡ 56
unfolding low class
class_of_896 = refl

class_of_928 : class 928 ≡ 58
unfolding low class
class_of_928 = refl

class_of_2032 : class 2032 ≡ 95
unfolding low class
class_of_2032 = refl

class_of_2048 : class 2048 ≡ 96
unfolding low class
class_of_2048 = refl

class_of_16777200 : class 16777200 ≡ 511
unfolding low class
class_of_16777200 = refl

need_of_1024 : need 1024 ≡ Some 64
unfolding low need
need_of_1024 = refl

need_of_1040 : need 1040 ≡ Some 65
unfolding low need
need_of_1040 = refl

need_of_the_last : need 1056964608 ≡ Some 703
unfolding low need
need_of_the_last = refl

need_above_the_last : need 1056964624 ≡ None
unfolding low need
need_above_the_last = refl

low_of_128 : low 128 ≡ 4096
unfolding low
low_of_128 = refl

low_of_512 : low 512 ≡ 16777216
unfolding low
low_of_512 = refl

low_of_513 : low 513 ≡ 17301504
unfolding low
low_of_513 = refl

low_of_672 : low 672 ≡ 536870912
unfolding low
low_of_672 = refl

round_of_0 : round 0 ≡ None
unfolding rounded
round_of_0 = refl

round_of_1 : round 1 ≡ Some 16
unfolding rounded
round_of_1 = refl

round_of_16 : round 16 ≡ Some 16
unfolding rounded
round_of_16 = refl

round_of_the_greatest_size : round 1073741808 ≡ Some 1073741808
unfolding rounded
round_of_the_greatest_size = refl

round_above_the_greatest_size : round 1073741809 ≡ None
unfolding rounded
round_above_the_greatest_size = refl

-- ---- the mapping by the bits of a size

mapped_first : mapped 9 512 ≡ 32
mapped_first = refl

mapped_last_step : mapped 9 1008 ≡ 63
mapped_last_step = refl

mapped_middle : mapped 10 1424 ≡ 76
mapped_middle = refl

mapped_greatest : mapped 29 1_073_741_808 ≡ 703
mapped_greatest = refl
