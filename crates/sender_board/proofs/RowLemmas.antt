-- The first row that passes, by its index.
use Rattle.std.proofs.Common.{◌≡◌, ℕ, ◌+◌, ◌<◌, ◌≤◌, zero, suc, Bool, true, false, nat_lt, List, [], ◌∷◌, ◌++◌, length, take, get_or, set, Some, None, refl, sym, ◌∙◌, ap, ⊎_elim, arith, add-one}
use Rattle.std.specs.List.{find, position, position_or_len, remove}
use Rattle.std.proofs.lemmas.Bool.{cases_Bool}
use Rattle.std.proofs.lemmas.Bool.Decides.{nat_tests}
use Rattle.std.proofs.lemmas.List.Quantifiers.{position-Some}
use Rattle.std.proofs.lemmas.List.Sums.{fails_before_first}
use Rattle.sender_board.specs.declared.message.Call.{Call}
use Rattle.sender_board.specs.Rows.{without, changed, with_last, with_call, size_in}
use Rattle.sender_board.specs.declared.rows.Waiting.{Waiting}
use Rattle.std.specs.Option.{is_some}

first_found : {X : Type 0} (p : X → Bool) (xs : List X) (i : ℕ) (d : X) → i < length xs → p (get_or xs i d) ≡ true
    → ((k : ℕ) → k < i → p (get_or xs k d) ≡ false) → find p xs ≡ Some (get_or xs i d)
first_found p [] i d lt here before = absurd (omega arith)
first_found p (x ∷ xs) zero d lt here before = rw here refl
first_found p (x ∷ xs) (suc i) d lt here before =
    let off : p x ≡ false = before 0 (omega arith) in
    rw off (first_found p xs i d (omega arith) here (λ k less. before (suc k) (omega arith)))

first_removed : {X : Type 0} (p : X → Bool) (xs : List X) (i : ℕ) (d : X) → i < length xs → p (get_or xs i d) ≡ true
    → ((k : ℕ) → k < i → p (get_or xs k d) ≡ false) → remove xs i ≡ without p xs
first_removed p [] i d lt here before = absurd (omega arith)
first_removed p (x ∷ xs) zero d lt here before = rw here refl
first_removed p (x ∷ xs) (suc i) d lt here before =
    let off : p x ≡ false = before 0 (omega arith) in
    rw off (ap (λ rest. x ∷ rest) (first_removed p xs i d (omega arith) here (λ k less. before (suc k) (omega arith))))

first_changed : {X : Type 0} (p : X → Bool) (f : X → X) (xs : List X) (i : ℕ) (d : X) → i < length xs → p (get_or xs i d) ≡ true
    → ((k : ℕ) → k < i → p (get_or xs k d) ≡ false) → set xs i (f (get_or xs i d)) ≡ changed p f xs
first_changed p f [] i d lt here before = absurd (omega arith)
first_changed p f (x ∷ xs) zero d lt here before = rw here refl
first_changed p f (x ∷ xs) (suc i) d lt here before =
    let off : p x ≡ false = before 0 (omega arith) in
    rw off (ap (λ rest. x ∷ rest) (first_changed p f xs i d (omega arith) here (λ k less. before (suc k) (omega arith))))

pub taken_found : {X : Type 0} (p : X → Bool) (xs : List X) (i : ℕ) (x : X) → position p xs ≡ Some i → x ≡ get_or xs i x → Some x ≡ find p xs
taken_found p xs i x place is =
    let first = position-Some p xs i x place in
    ap Some is ∙ sym (first_found p xs i x first.0 first.1 first.2)

pub taken_left : {X : Type 0} (p : X → Bool) (xs : List X) (i : ℕ) (x : X) → position p xs ≡ Some i → x ≡ get_or xs i x → remove xs i ≡ without p xs
taken_left p xs i x place is =
    let first = position-Some p xs i x place in
    first_removed p xs i x first.0 first.1 first.2

pub changed_at : {X : Type 0} (p : X → Bool) (f : X → X) (xs : List X) (i : ℕ) (x : X) → position p xs ≡ Some i → x ≡ get_or xs i x → set xs i (f x) ≡ changed p f xs
changed_at p f xs i x place is =
    let first = position-Some p xs i x place in
    ap (λ y. set xs i (f y)) is ∙ first_changed p f xs i x first.0 first.1 first.2

pub within : {X : Type 0} (p : X → Bool) (xs : List X) (i : ℕ) (x : X) → position p xs ≡ Some i → i < length xs
within p xs i x place = (position-Some p xs i x place).0

-- ---- no row passes

none_passes : {X : Type 0} (p : X → Bool) (xs : List X) → ((k : ℕ) (d : X) → k < length xs → p (get_or xs k d) ≡ false) → find p xs ≡ None
none_passes p [] all = refl
none_passes p (x ∷ xs) all =
    let off : p x ≡ false = all 0 x (omega arith) in
    rw off (none_passes p xs (λ k d less. all (suc k) d (omega arith)))

none_changed : {X : Type 0} (p : X → Bool) (f : X → X) (xs : List X) → ((k : ℕ) (d : X) → k < length xs → p (get_or xs k d) ≡ false) → changed p f xs ≡ xs
none_changed p f [] all = refl
none_changed p f (x ∷ xs) all =
    let off : p x ≡ false = all 0 x (omega arith) in
    rw off (ap (λ rest. x ∷ rest) (none_changed p f xs (λ k d less. all (suc k) d (omega arith))))

all_fail : {X : Type 0} (p : X → Bool) (xs : List X) → position p xs ≡ None → (k : ℕ) (d : X) → k < length xs → p (get_or xs k d) ≡ false
all_fail p xs none k d less =
    ⊎_elim
    (λ is. (let wrong : Some (position_or_len p xs) ≡ None = rw is at none in absurd cc))
    (λ off. (let far : length xs ≤ position_or_len p xs = grind (arith, nat_tests) in fails_before_first p xs k d (omega arith)))
    (cases_Bool (nat_lt (position_or_len p xs) (length xs)))

pub none_found : {X : Type 0} (p : X → Bool) (xs : List X) → position p xs ≡ None → None ≡ find p xs
none_found p xs none = sym (none_passes p xs (all_fail p xs none))

none_without : {X : Type 0} (p : X → Bool) (xs : List X) → ((k : ℕ) (d : X) → k < length xs → p (get_or xs k d) ≡ false) → without p xs ≡ xs
none_without p [] all = refl
none_without p (x ∷ xs) all =
    let off : p x ≡ false = all 0 x (omega arith) in
    rw off (ap (λ rest. x ∷ rest) (none_without p xs (λ k d less. all (suc k) d (omega arith))))

pub none_left : {X : Type 0} (p : X → Bool) (xs : List X) → position p xs ≡ None → xs ≡ without p xs
none_left p xs none = sym (none_without p xs (all_fail p xs none))

pub none_with : {X : Type 0} (p : X → Bool) (f : X → X) (xs : List X) → position p xs ≡ None → xs ≡ changed p f xs
none_with p f xs none = sym (none_changed p f xs (all_fail p xs none))

-- ---- whether a row passes

pub has_some : {X : Type 0} (p : X → Bool) (xs : List X) (i : ℕ) → position p xs ≡ Some i → true ≡ is_some (find p xs)
has_some p [] i place = absurd cc
has_some p (x ∷ xs) i place =
    let first = position-Some p (x ∷ xs) i x place in
    ap is_some (sym (first_found p (x ∷ xs) i x first.0 first.1 first.2))

pub has_none : {X : Type 0} (p : X → Bool) (xs : List X) → position p xs ≡ None → false ≡ is_some (find p xs)
has_none p xs none = ap is_some (none_found p xs none)

-- one more call in the row at an index
pub add_at : {T : Type 0} (test : Waiting T → Bool) (call : Call T) (rows : List (Waiting T)) (i : ℕ) (row : Waiting T) (calls : List (Call T))
    → position test rows ≡ Some i → row ≡ get_or rows i row → calls ≡ row.calls ++ call ∷ []
    → set rows i (record { sender = row.sender; question = row.question; calls = calls }) ≡ with_call test call rows
add_at {T} test call rows i row calls place is added =
    ap (λ (all : List (Call T)). set rows i (record { sender = row.sender; question = row.question; calls = all })) added
    ∙ changed_at test (with_last call) rows i row place is

-- ---- the bytes of calls

size_more : {T : Type 0} (calls : List (Call T)) (i : ℕ) (call : Call T) → i < length calls → call ≡ get_or calls i call
    → size_in (take (suc i) calls) ≡ size_in (take i calls) + call.size
size_more [] i call less is = absurd (omega arith)
size_more (first ∷ calls) zero call less is = rw (← is) (omega arith)
size_more (first ∷ calls) (suc i) call less is = omega (arith, size_more calls i call (omega arith) is)

pub size_push : {T : Type 0} (calls : List (Call T)) (i : ℕ) (call : Call T) → i < length calls → call ≡ get_or calls i call
    → size_in (take (i + 1) calls) ≡ size_in (take i calls) + call.size
size_push calls i call less is = rw add-one (size_more calls i call less is)
