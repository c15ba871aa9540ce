-- Names that are the same.
use Rattle.std.proofs.Common.{◌≡◌, ℕ, true, List, refl}
use Rattle.std.specs.Cmp.Lexicographic.{slice_cmp}
use Rattle.std.specs.Ordering.{nat_cmp, is_eq}
use Rattle.std.specs.declared.cmp.Ordering.{Ordering}
use Rattle.std.specs.declared.cmp.Ordering.TheVariants.{Less, Equal, Greater}
use Rattle.std.proofs.lemmas.Map.Lookups.{exact_bytes}
use Rattle.kr_base.specs.Attributes.{is_name}

pub Equal-is : (o : Ordering) → is_eq o ≡ true → o ≡ Equal
Equal-is Less e = absurd cc
Equal-is Equal e = refl
Equal-is Greater e = absurd cc

pub same_name : (x y : List ℕ) → is_name x y ≡ true → x ≡ y
same_name x y e = exact_bytes x y (Equal-is (slice_cmp nat_cmp x y) e)
