-- Entries before and after one of them: what a look-up and a change find there if the keys are in order.
use Rattle.std.proofs.Common.{◌≡◌, ℕ, ◌<◌, Bool, true, false, cond, List, [], ◌∷◌, ◌++◌, Some, length, length-append, arith, refl, sym, ap, subst, ◌∙◌, ⊎_elim}
use Rattle.std.specs.Cmp.{IsTotalOrder, nat_cmp_total}
use Rattle.std.specs.Cmp.Lexicographic.{nat_list_cmp_total}
use Rattle.std.specs.List.{AllByRecursion}
use Rattle.std.specs.List.Sorted.{IsStrictlySortedBy}
use Rattle.std.specs.Map.{keys_of, lookup, remove_entry, set_value}
use Rattle.std.specs.Ordering.{is_eq, is_lt, ordering_reverse}
use Rattle.std.specs.declared.cmp.Ordering.{Ordering}
use Rattle.std.specs.declared.cmp.Ordering.TheVariants.{Less, Equal, Greater}
use Rattle.std.proofs.lemmas.Bool.{cases_Bool}
use Rattle.std.proofs.lemmas.Cmp.{on_total, then_total}
use Rattle.std.proofs.lemmas.Map.{NonePasses, lookup-none}
use Rattle.attribute_index.specs.Around.{Around, between, with_own}
use Rattle.attribute_index.specs.Index.{IsSorted, Names, is_pair, pair_cmp, pair_key}

-- ---- two lists of entries, one after the other

module _ {K X : Type 0} (test : K → Bool) where
  pub lookup-front : (es fs : List (K × X)) → NonePasses test fs → lookup test (es ++ fs) ≡ lookup test es
  lookup-front [] fs h = lookup-none test fs h
  lookup-front (e ∷ es) fs h = ap (cond (test e.0) (Some e.1)) (lookup-front es fs h)

  pub lookup-back : (es fs : List (K × X)) → NonePasses test es → lookup test (es ++ fs) ≡ lookup test fs
  lookup-back [] fs h = refl
  lookup-back (e ∷ es) fs h = rw h.0 (lookup-back es fs h.1)

  pub set-none : (es : List (K × X)) (w : X) → NonePasses test es → set_value test es w ≡ es
  set-none [] w h = refl
  set-none (e ∷ es) w h = rw h.0 (ap (λ l. e ∷ l) (set-none es w h.1))

  pub set-front : (es fs : List (K × X)) (w : X) → NonePasses test fs → set_value test (es ++ fs) w ≡ set_value test es w ++ fs
  set-front [] fs w h = set-none fs w h
  set-front (e ∷ es) fs w h =
      ⊎_elim
      (λ is. rw is refl)
      (λ off. rw off (ap (λ l. e ∷ l) (set-front es fs w h)))
      (cases_Bool (test e.0))

  pub set-back : (es fs : List (K × X)) (w : X) → NonePasses test es → set_value test (es ++ fs) w ≡ es ++ set_value test fs w
  set-back [] fs w h = refl
  set-back (e ∷ es) fs w h = rw h.0 (ap (λ l. e ∷ l) (set-back es fs w h.1))

  pub remove-none : (es : List (K × X)) → NonePasses test es → remove_entry test es ≡ es
  remove-none [] h = refl
  remove-none (e ∷ es) h = rw h.0 (ap (λ l. e ∷ l) (remove-none es h.1))

  pub remove-front : (es fs : List (K × X)) → NonePasses test fs → remove_entry test (es ++ fs) ≡ remove_entry test es ++ fs
  remove-front [] fs h = remove-none fs h
  remove-front (e ∷ es) fs h =
      ⊎_elim
      (λ is. rw is refl)
      (λ off. rw off (ap (λ l. e ∷ l) (remove-front es fs h)))
      (cases_Bool (test e.0))

  pub remove-back : (es fs : List (K × X)) → NonePasses test es → remove_entry test (es ++ fs) ≡ es ++ remove_entry test fs
  remove-back [] fs h = refl
  remove-back (e ∷ es) fs h = rw h.0 (ap (λ l. e ∷ l) (remove-back es fs h.1))

-- ---- pairs in order

pub pair_total : IsTotalOrder pair_cmp
pair_total = then_total (on_total pair_key nat_cmp_total) (then_total (on_total (λ (p : List ℕ × List ℕ). p.0) nat_list_cmp_total) (on_total (λ (p : List ℕ × List ℕ). p.1) nat_list_cmp_total))

abbrev pub AllBelow : Names → List ℕ × List ℕ → Type 0
AllBelow es k = AllByRecursion (λ (e : (List ℕ × List ℕ) × List ℕ). pair_cmp e.0 k ≡ Less) es

abbrev pub AllAbove : List ℕ × List ℕ → Names → Type 0
AllAbove k es = AllByRecursion (λ (e : (List ℕ × List ℕ) × List ℕ). pair_cmp k e.0 ≡ Less) es

keys-above : (k : List ℕ × List ℕ) (es : Names) → AllByRecursion (λ y. pair_cmp k y ≡ Less) (keys_of es) → AllAbove k es
keys-above k [] h = tt
keys-above k (e ∷ es) h = (h.0, keys-above k es h.1)

above-keys : (k : List ℕ × List ℕ) (es : Names) → AllAbove k es → AllByRecursion (λ y. pair_cmp k y ≡ Less) (keys_of es)
above-keys k [] h = tt
above-keys k (e ∷ es) h = (h.0, above-keys k es h.1)

pub sorted-head : (e : (List ℕ × List ℕ) × List ℕ) (es : Names) → IsSorted (e ∷ es) → AllAbove e.0 es
unfolding IsStrictlySortedBy
sorted-head e es s = keys-above e.0 es s.0

pub sorted-tail : (e : (List ℕ × List ℕ) × List ℕ) (es : Names) → IsSorted (e ∷ es) → IsSorted es
unfolding IsStrictlySortedBy
sorted-tail e es s = s.1

pub sorted-cons : (e : (List ℕ × List ℕ) × List ℕ) (es : Names) → AllAbove e.0 es → IsSorted es → IsSorted (e ∷ es)
unfolding IsStrictlySortedBy
sorted-cons e es above s = (above-keys e.0 es above, s)

above-front : (k : List ℕ × List ℕ) (es fs : Names) → AllAbove k (es ++ fs) → AllAbove k es
above-front k [] fs h = tt
above-front k (e ∷ es) fs h = (h.0, above-front k es fs h.1)

above-back : (k : List ℕ × List ℕ) (es fs : Names) → AllAbove k (es ++ fs) → AllAbove k fs
above-back k [] fs h = h
above-back k (e ∷ es) fs h = above-back k es fs h.1

pub sorted-front : (es fs : Names) → IsSorted (es ++ fs) → IsSorted es
unfolding IsStrictlySortedBy
sorted-front [] fs s = tt
sorted-front (e ∷ es) fs s = sorted-cons e es (above-front e.0 es fs (sorted-head e (es ++ fs) s)) (sorted-front es fs (sorted-tail e (es ++ fs) s))

pub sorted-back : (es fs : Names) → IsSorted (es ++ fs) → IsSorted fs
sorted-back [] fs s = s
sorted-back (e ∷ es) fs s = sorted-back es fs (sorted-tail e (es ++ fs) s)

pub all-below : (es fs : Names) (e : (List ℕ × List ℕ) × List ℕ) → IsSorted (es ++ e ∷ fs) → AllBelow es e.0
all-below [] fs e s = tt
all-below (x ∷ es) fs e s = ((above-back x.0 es (e ∷ fs) (sorted-head x (es ++ e ∷ fs) s)).0, all-below es fs e (sorted-tail x (es ++ e ∷ fs) s))

-- ---- a key that comes before, at or after the entry in the middle

abbrev pub Turned : List ℕ × List ℕ → List ℕ × List ℕ → Ordering → Type 0
Turned k l o = pair_cmp l k ≡ ordering_reverse o

pub turned : (k l : List ℕ × List ℕ) (o : Ordering) → pair_cmp k l ≡ o → Turned k l o
turned k l o e = pair_total.antisymm l k ∙ ap ordering_reverse e

pub less-above : (k l : List ℕ × List ℕ) → pair_cmp k l ≡ Less → (es : Names) → AllAbove l es → AllAbove k es
less-above k l less [] h = tt
less-above k l less (e ∷ es) h = (pair_total.trans k l e.0 less h.0, less-above k l less es h.1)

above-none : (k : List ℕ × List ℕ) (es : Names) → AllAbove k es → NonePasses (is_pair k) es
above-none k [] h = tt
above-none k (e ∷ es) h = (ap is_eq h.0, above-none k es h.1)

below-none : (k : List ℕ × List ℕ) (es : Names) → AllBelow es k → NonePasses (is_pair k) es
below-none k [] h = tt
below-none k (e ∷ es) h = (ap is_eq (turned e.0 k Less h.0), below-none k es h.1)

-- below a key that is below another, or the same
below-same : (k l : List ℕ × List ℕ) → pair_cmp k l ≡ Equal → (es : Names) → AllBelow es l → AllBelow es k
below-same k l same [] h = tt
below-same k l same (e ∷ es) h = (turned k e.0 Greater (pair_total.congr k l e.0 same ∙ turned e.0 l Less h.0), below-same k l same es h.1)

below-greater : (k l : List ℕ × List ℕ) → pair_cmp k l ≡ Greater → (es : Names) → AllBelow es l → AllBelow es k
below-greater k l more [] h = tt
below-greater k l more (e ∷ es) h = (pair_total.trans e.0 l k h.0 (turned k l Greater more), below-greater k l more es h.1)

pub none-after : (k : List ℕ × List ℕ) (es fs : Names) (e : (List ℕ × List ℕ) × List ℕ) → IsSorted (es ++ e ∷ fs) → pair_cmp k e.0 ≡ Less → NonePasses (is_pair k) (e ∷ fs)
none-after k es fs e s less =
    let above = sorted-head e fs (sorted-back es (e ∷ fs) s) in
    above-none k (e ∷ fs) (less, less-above k e.0 less fs above)

pub none-before : (k : List ℕ × List ℕ) (es fs : Names) (e : (List ℕ × List ℕ) × List ℕ) → IsSorted (es ++ e ∷ fs) → pair_cmp k e.0 ≡ Greater → NonePasses (is_pair k) es
none-before k es fs e s more = below-none k es (below-greater k e.0 more es (all-below es fs e s))

pub none-same : (k : List ℕ × List ℕ) (es fs : Names) (e : (List ℕ × List ℕ) × List ℕ) → IsSorted (es ++ e ∷ fs) → pair_cmp k e.0 ≡ Equal → NonePasses (is_pair k) es
none-same k es fs e s same = below-none k es (below-same k e.0 same es (all-below es fs e s))

-- ---- what a look-up finds

pub lookup-before : (k : List ℕ × List ℕ) (es fs : Names) (e : (List ℕ × List ℕ) × List ℕ) → IsSorted (es ++ e ∷ fs) → pair_cmp k e.0 ≡ Less → lookup (is_pair k) (es ++ e ∷ fs) ≡ lookup (is_pair k) es
lookup-before k es fs e s less = lookup-front (is_pair k) es (e ∷ fs) (none-after k es fs e s less)

pub lookup-after : (k : List ℕ × List ℕ) (es fs : Names) (e : (List ℕ × List ℕ) × List ℕ) → IsSorted (es ++ e ∷ fs) → pair_cmp k e.0 ≡ Greater → lookup (is_pair k) (es ++ e ∷ fs) ≡ lookup (is_pair k) fs
lookup-after k es fs e s more =
    let off : is_pair k e.0 ≡ false = ap is_eq more in
    lookup-back (is_pair k) es (e ∷ fs) (none-before k es fs e s more) ∙ ap (λ b. cond b (Some e.1) (lookup (is_pair k) fs)) off

pub lookup-same : (k : List ℕ × List ℕ) (es fs : Names) (e : (List ℕ × List ℕ) × List ℕ) → IsSorted (es ++ e ∷ fs) → pair_cmp k e.0 ≡ Equal → lookup (is_pair k) (es ++ e ∷ fs) ≡ Some e.1
lookup-same k es fs e s same =
    let is : is_pair k e.0 ≡ true = ap is_eq same in
    lookup-back (is_pair k) es (e ∷ fs) (none-same k es fs e s same) ∙ ap (λ b. cond b (Some e.1) (lookup (is_pair k) fs)) is

-- ---- what a write leaves

pub set-before : (k : List ℕ × List ℕ) (es fs : Names) (e : (List ℕ × List ℕ) × List ℕ) (w : List ℕ) → IsSorted (es ++ e ∷ fs) → pair_cmp k e.0 ≡ Less → set_value (is_pair k) (es ++ e ∷ fs) w ≡ set_value (is_pair k) es w ++ e ∷ fs
set-before k es fs e w s less = set-front (is_pair k) es (e ∷ fs) w (none-after k es fs e s less)

pub set-after : (k : List ℕ × List ℕ) (es fs : Names) (e : (List ℕ × List ℕ) × List ℕ) (w : List ℕ) → IsSorted (es ++ e ∷ fs) → pair_cmp k e.0 ≡ Greater → set_value (is_pair k) (es ++ e ∷ fs) w ≡ es ++ e ∷ set_value (is_pair k) fs w
set-after k es fs e w s more =
    let off : is_pair k e.0 ≡ false = ap is_eq more in
    set-back (is_pair k) es (e ∷ fs) w (none-before k es fs e s more) ∙ ap (λ b. es ++ cond b ((e.0, w) ∷ fs) (e ∷ set_value (is_pair k) fs w)) off

pub set-same : (k : List ℕ × List ℕ) (es fs : Names) (e : (List ℕ × List ℕ) × List ℕ) (w : List ℕ) → IsSorted (es ++ e ∷ fs) → pair_cmp k e.0 ≡ Equal → set_value (is_pair k) (es ++ e ∷ fs) w ≡ es ++ (e.0, w) ∷ fs
set-same k es fs e w s same =
    let is : is_pair k e.0 ≡ true = ap is_eq same in
    set-back (is_pair k) es (e ∷ fs) w (none-same k es fs e s same) ∙ ap (λ b. es ++ cond b ((e.0, w) ∷ fs) (e ∷ set_value (is_pair k) fs w)) is

-- ---- what is left of it

pub remove-before : (k : List ℕ × List ℕ) (es fs : Names) (e : (List ℕ × List ℕ) × List ℕ) → IsSorted (es ++ e ∷ fs) → pair_cmp k e.0 ≡ Less → remove_entry (is_pair k) (es ++ e ∷ fs) ≡ remove_entry (is_pair k) es ++ e ∷ fs
remove-before k es fs e s less = remove-front (is_pair k) es (e ∷ fs) (none-after k es fs e s less)

pub remove-after : (k : List ℕ × List ℕ) (es fs : Names) (e : (List ℕ × List ℕ) × List ℕ) → IsSorted (es ++ e ∷ fs) → pair_cmp k e.0 ≡ Greater → remove_entry (is_pair k) (es ++ e ∷ fs) ≡ es ++ e ∷ remove_entry (is_pair k) fs
remove-after k es fs e s more =
    let off : is_pair k e.0 ≡ false = ap is_eq more in
    remove-back (is_pair k) es (e ∷ fs) (none-before k es fs e s more) ∙ ap (λ b. es ++ cond b fs (e ∷ remove_entry (is_pair k) fs)) off

pub remove-same : (k : List ℕ × List ℕ) (es fs : Names) (e : (List ℕ × List ℕ) × List ℕ) → IsSorted (es ++ e ∷ fs) → pair_cmp k e.0 ≡ Equal → remove_entry (is_pair k) (es ++ e ∷ fs) ≡ es ++ fs
remove-same k es fs e s same =
    let is : is_pair k e.0 ≡ true = ap is_eq same in
    remove-back (is_pair k) es (e ∷ fs) (none-same k es fs e s same) ∙ ap (λ b. es ++ cond b fs (e ∷ remove_entry (is_pair k) fs)) is

-- ---- one pair more

pub own-before : (own : Around) (es fs : Names) (e : (List ℕ × List ℕ) × List ℕ) → is_lt (pair_cmp (own.name, own.text) e.0) ≡ true → with_own own (es ++ e ∷ fs) ≡ with_own own es ++ e ∷ fs
own-before own [] fs e is = rw is refl
own-before own (x ∷ es) fs e is =
    ⊎_elim
    (λ below. rw below refl)
    (λ off. rw off (ap (λ l. x ∷ l) (own-before own es fs e is)))
    (cases_Bool (is_lt (pair_cmp (own.name, own.text) x.0)))

Less-is : (o : Ordering) → is_lt o ≡ true → o ≡ Less
Less-is Less e = refl
Less-is Equal e = absurd cc
Less-is Greater e = absurd cc

pub own-after : (own : Around) (es fs : Names) (e : (List ℕ × List ℕ) × List ℕ) → IsSorted (es ++ e ∷ fs) → is_lt (pair_cmp (own.name, own.text) e.0) ≡ false → with_own own (es ++ e ∷ fs) ≡ es ++ e ∷ with_own own fs
own-after own [] fs e s off = rw off refl
own-after own (x ∷ es) fs e s off =
    let between : pair_cmp x.0 e.0 ≡ Less = (above-back x.0 es (e ∷ fs) (sorted-head x (es ++ e ∷ fs) s)).0 in
    let more = own-after own es fs e (sorted-tail x (es ++ e ∷ fs) s) off in
    ⊎_elim
    (λ is.
    let less : pair_cmp (own.name, own.text) e.0 ≡ Less = pair_total.trans (own.name, own.text) x.0 e.0 (Less-is (pair_cmp (own.name, own.text) x.0) is) between in
    let wrong : true ≡ false = sym (ap is_lt less) ∙ off in
    absurd cc)
    (λ apart. rw apart (ap (λ l. x ∷ l) more))
    (cases_Bool (is_lt (pair_cmp (own.name, own.text) x.0)))

-- ---- the same for a branch, whose pairs are those before its own, its own, and those after

module _ (own : Around) (all es fs : Names) (are : all ≡ between es own fs) where
  pub fewer-before : length es < length all
  fewer-before = omega (arith, ap length are, length-append es (((own.name, own.text), own.ids) ∷ fs))

  pub fewer-after : length fs < length all
  fewer-after = omega (arith, ap length are, length-append es (((own.name, own.text), own.ids) ∷ fs))

  module _ (s : IsSorted all) where
    abbrev told : IsSorted (between es own fs)
    told = subst IsSorted are s

    pub are-before : IsSorted es
    are-before = sorted-front es (((own.name, own.text), own.ids) ∷ fs) told

    pub are-after : IsSorted fs
    are-after = sorted-tail ((own.name, own.text), own.ids) fs (sorted-back es (((own.name, own.text), own.ids) ∷ fs) told)

    pub one-before : (one : Around) (new now : Names) → true ≡ is_lt (pair_cmp (one.name, one.text) (own.name, own.text)) → now ≡ between new own fs → new ≡ with_own one es → now ≡ with_own one all
    one-before one new now less is put = is ∙ ap (λ l. between l own fs) put ∙ sym (own-before one es fs ((own.name, own.text), own.ids) (sym less)) ∙ ap (with_own one) (sym are)

    pub one-after : (one : Around) (new now : Names) → false ≡ is_lt (pair_cmp (one.name, one.text) (own.name, own.text)) → now ≡ between es own new → new ≡ with_own one fs → now ≡ with_own one all
    one-after one new now more is put = is ∙ ap (between es own) put ∙ sym (own-after one es fs ((own.name, own.text), own.ids) told (sym more)) ∙ ap (with_own one) (sym are)

    module _ (k : List ℕ × List ℕ) where
      pub gone-before : (new now : Names) → pair_cmp k (own.name, own.text) ≡ Less → now ≡ between new own fs → new ≡ remove_entry (is_pair k) es → now ≡ remove_entry (is_pair k) all
      gone-before new now less is gone = is ∙ ap (λ l. between l own fs) gone ∙ sym (remove-before k es fs ((own.name, own.text), own.ids) told less) ∙ ap (remove_entry (is_pair k)) (sym are)

      pub gone-after : (new now : Names) → pair_cmp k (own.name, own.text) ≡ Greater → now ≡ between es own new → new ≡ remove_entry (is_pair k) fs → now ≡ remove_entry (is_pair k) all
      gone-after new now more is gone = is ∙ ap (between es own) gone ∙ sym (remove-after k es fs ((own.name, own.text), own.ids) told more) ∙ ap (remove_entry (is_pair k)) (sym are)

      pub gone-same : (now : Names) → pair_cmp k (own.name, own.text) ≡ Equal → now ≡ es ++ fs → now ≡ remove_entry (is_pair k) all
      gone-same now same is = is ∙ sym (remove-same k es fs ((own.name, own.text), own.ids) told same) ∙ ap (remove_entry (is_pair k)) (sym are)

      pub found-before : pair_cmp k (own.name, own.text) ≡ Less → lookup (is_pair k) all ≡ lookup (is_pair k) es
      found-before less = ap (lookup (is_pair k)) are ∙ lookup-before k es fs ((own.name, own.text), own.ids) told less

      pub found-after : pair_cmp k (own.name, own.text) ≡ Greater → lookup (is_pair k) all ≡ lookup (is_pair k) fs
      found-after more = ap (lookup (is_pair k)) are ∙ lookup-after k es fs ((own.name, own.text), own.ids) told more

      pub found-same : pair_cmp k (own.name, own.text) ≡ Equal → lookup (is_pair k) all ≡ Some own.ids
      found-same same = ap (lookup (is_pair k)) are ∙ lookup-same k es fs ((own.name, own.text), own.ids) told same

      pub written-before : (w : List ℕ) → pair_cmp k (own.name, own.text) ≡ Less → set_value (is_pair k) all w ≡ between (set_value (is_pair k) es w) own fs
      written-before w less = ap (λ l. set_value (is_pair k) l w) are ∙ set-before k es fs ((own.name, own.text), own.ids) w told less

      pub written-after : (w : List ℕ) → pair_cmp k (own.name, own.text) ≡ Greater → set_value (is_pair k) all w ≡ between es own (set_value (is_pair k) fs w)
      written-after w more = ap (λ l. set_value (is_pair k) l w) are ∙ set-after k es fs ((own.name, own.text), own.ids) w told more

      pub written-same : (w : List ℕ) → pair_cmp k (own.name, own.text) ≡ Equal → set_value (is_pair k) all w ≡ es ++ ((own.name, own.text), w) ∷ fs
      written-same w same = ap (λ l. set_value (is_pair k) l w) are ∙ set-same k es fs ((own.name, own.text), own.ids) w told same
