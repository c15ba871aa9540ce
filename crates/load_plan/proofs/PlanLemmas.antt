-- The calls of a load: how many there are, and that a client can make them.
use Rattle.std.proofs.Common.{◌≡◌, ℕ, zero, suc, ◌+◌, ◌<◌, List, [], ◌∷◌, ◌++◌, length, codes, decimal, refl, ap, sym, ◌∙◌, arith}
use Rattle.std.specs.Prelude.{IsTrue}
use Rattle.std.specs.List.{All, AllByRecursion}
use Rattle.std.proofs.lemmas.List.{length-append}
use Rattle.std.proofs.lemmas.List.Elements.{All-from_recursion}
use Rattle.kr_base.specs.declared.attributes.AttrValue.{AttrValue}
use Rattle.kr_base.specs.declared.attributes.AttrValue.TheVariants as value
use Rattle.secret_calls.specs.declared.call.Call.{Call}
use Rattle.client_core.specs.Askable.{IsAskable, is_text_value}
use Rattle.load_plan.specs.Plan.{first, opening, create, search, read, plan, attributes_of}

pub append-all : (P : Call → Type 0) (xs ys : List Call) → AllByRecursion P xs → AllByRecursion P ys → AllByRecursion P (xs ++ ys)
append-all P [] ys one two = two
append-all P (x ∷ xs) ys one two = (one.0, append-all P xs ys one.1 two)

first-all : (P : Call → Type 0) (f : ℕ → Call) → ((k : ℕ) → P (f k)) → (n : ℕ) → AllByRecursion P (first f n)
first-all P f each zero = tt
first-all P f each (suc n) = append-all P (first f n) (f n ∷ []) (first-all P f each n) (each n, tt)

opening-askable : AllByRecursion IsAskable opening
opening-askable = (tt, (tt, (omega arith, (omega arith, (tt, tt)))))

create-askable : (seed item : ℕ) → IsAskable (create seed item)
create-askable seed item =
    let texts : AllByRecursion (λ (pair : List ℕ × AttrValue). IsTrue (is_text_value pair.1)) (attributes_of seed item) = (refl, (refl, tt)) in
    (tt, tt, All-from_recursion (λ (pair : List ℕ × AttrValue). IsTrue (is_text_value pair.1)) (attributes_of seed item) texts, omega arith)

search-askable : (group : ℕ) → IsAskable (search group)
search-askable group =
    let wanted : List (List ℕ × AttrValue) = (codes "group", value.Text (decimal group)) ∷ [] in
    let texts : AllByRecursion (λ (pair : List ℕ × AttrValue). IsTrue (is_text_value pair.1)) wanted = (refl, tt) in
    All-from_recursion (λ (pair : List ℕ × AttrValue). IsTrue (is_text_value pair.1)) wanted texts

read-askable : (item : ℕ) → IsAskable (read item)
read-askable item = omega arith

-- a client can make each of them
pub plan-askable : (items seed : ℕ) → AllByRecursion IsAskable (plan items seed)
plan-askable items seed =
    append-all IsAskable opening _ opening-askable (append-all IsAskable (first (create seed) items) _ (first-all IsAskable (create seed) (create-askable seed) items)
    (append-all IsAskable (first search 10) (first read items) (first-all IsAskable search search-askable 10) (first-all IsAskable read read-askable items)))

first-length : (f : ℕ → Call) (n : ℕ) → length (first f n) ≡ n
first-length f zero = refl
first-length f (suc n) = length-append (first f n) (f n ∷ []) ∙ omega (arith, first-length f n)

-- there are fifteen, and two for each item
pub plan-length : (items seed : ℕ) → length (plan items seed) ≡ 15 + (items + items)
plan-length items seed =
    let rest = length-append (first search 10) (first read items) in
    let items-and = length-append (first (create seed) items) (first search 10 ++ first read items) in
    let all = length-append opening (first (create seed) items ++ (first search 10 ++ first read items)) in
    omega (arith, rest, items-and, all, first-length (create seed) items, first-length search 10, first-length read items)
