-- Two lists of properties are compared by their elements.
use Rattle.std.proofs.Common.{◌≡◌, Bool, true, false, List, refl}
use Rattle.std.specs.Bool.{Decides}
use Rattle.std.specs.Cmp.Lexicographic.{pointwise}
use Rattle.std.proofs.lemmas.Slice.Eq.{slice_eq-Decides}
use Rattle.secret_calls.specs.contracts.property.PropertyPartialEq.TheImpl.{eq-value}
use Rattle.secret_calls.specs.declared.property.Property.{Property}
use Rattle.secret_calls.specs.declared.property.Property.TheVariants as property

one_Decides : (one other : Property) → Decides (eq-value.it one other) (one ≡ other)
one_Decides property.Collections property.Collections = (λ e. refl, λ e. refl)
one_Decides property.Items property.Items = (λ e. refl, λ e. refl)
one_Decides property.Label property.Label = (λ e. refl, λ e. refl)
one_Decides property.Attributes property.Attributes = (λ e. refl, λ e. refl)
one_Decides property.Locked property.Locked = (λ e. refl, λ e. refl)
one_Decides property.Created property.Created = (λ e. refl, λ e. refl)
one_Decides property.Modified property.Modified = (λ e. refl, λ e. refl)
one_Decides _ _ = (λ e. absurd (let no : false ≡ true = e in cc), λ e. absurd cc)

pub all_Decides : (one other : List Property) (r : Bool) → r ≡ pointwise eq-value.it one other → Decides r (one ≡ other)
all_Decides one other r is = slice_eq-Decides one_Decides one other r is
