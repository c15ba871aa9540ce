-- Which seats own the positions of the history, and which passes each seat stands for.
use Rattle.std.proofs.Common.{◌≡◌, ◌⊎◌, ℕ, zero, suc, ◌+◌, ◌-◌, ◌<◌, ◌≤◌, ◌≢◌, nat_le, Bool, true, false, if◌then◌else◌, List, [], ◌∷◌, ◌++◌, length, set, refl, sym, ap, ◌∙◌, subst, ⊎_elim, inl, inr, arith}
use mathlib.Core.Logic.{dite}
use mathlib.Core.Option.{some, some-injective, some-ne-none}
use native.Mathlib.Decide.{ℕ_discrete}
use lib.ListN.{get_elem?}
use Rattle.atomic_table.proofs.Lists.{at_set, set_else, at_longer, at_snoc}
use Rattle.shared_turn.specs.declared.known.Known.{Known}
use Rattle.shared_turn.specs.declared.share.Share.{Share}
use Rattle.shared_turn.specs.declared.share.Share.TheVariants as share
use Rattle.shared_turn.specs.Places.{ArePlaces, IsIn, all_places, places_from, inserted, merged}
use Rattle.shared_turn.specs.Shares.{whole, one, without, together, IsFirst, noted_in, HasAny, LeavesOut}
use Rattle.shared_turn.specs.Rule.{giving, noted, gathered, spent, all_noted, AreApart, IsOwned, IsTrue, Knows}
use Rattle.shared_turn.proofs.Histories.{in-bounds, in-more, in-all}
use Rattle.shared_turn.proofs.Seating.{set-at, at-one}

-- the first pass is left as the first one
pub first-without : (number : ℕ) (s : Share) → IsFirst s → IsFirst (without number s)
first-without number (share.AllBut missing) is = tt
first-without number (share.Only these) is = absurd is

pub any-without : (number : ℕ) (s : Share) → IsFirst s → HasAny (without number s)
any-without number (share.AllBut missing) is = tt
any-without number (share.Only these) is = absurd is

pub noted-without : (number : ℕ) (s : Share) → IsFirst s → noted_in (without number s) ≡ noted_in s
noted-without number (share.AllBut missing) is = refl
noted-without number (share.Only these) is = absurd is

pub leaves-without : (others number : ℕ) (s : Share) → IsFirst s → LeavesOut others s → LeavesOut (others + number) (without number s)
leaves-without others number (share.AllBut missing) is leaves = ap (λ (n : ℕ). n + number) leaves
leaves-without others number (share.Only these) is leaves = absurd is

-- a share that isn't the first leaves nothing out
pub leaves-other : (others : ℕ) (s : Share) → (IsFirst s → ⊥) → LeavesOut others s
leaves-other others (share.AllBut missing) not = absurd (not tt)
leaves-other others (share.Only these) not = tt

-- two together are the first exactly if one of them is
pub first-together : (s t : Share) → IsFirst (together s t) → IsFirst s ⊎ IsFirst t
first-together (share.AllBut missing) t is = inl tt
first-together (share.Only these) (share.AllBut missing) is = inr tt
first-together (share.Only these) (share.Only more) is = absurd is

pub any-together : (s t : Share) → HasAny s → HasAny t → HasAny (together s t)
any-together (share.AllBut missing) (share.AllBut others) first second = tt
any-together (share.AllBut missing) (share.Only these) first second = tt
any-together (share.Only these) (share.AllBut missing) first second = tt
any-together (share.Only these) (share.Only more) first second = omega (arith, first)

-- what two together leave out
pub leaves-together : (others now : ℕ) (s t : Share) → (IsFirst s → IsFirst t → ⊥) → LeavesOut others s → LeavesOut others t
    → (now + noted_in s) + noted_in t ≡ others + noted_in (together s t) → LeavesOut now (together s t)
leaves-together others now (share.AllBut missing) (share.AllBut more) apart first second same = absurd (apart tt tt)
leaves-together others now (share.AllBut missing) (share.Only these) apart first second same = omega (arith, first, same)
leaves-together others now (share.Only these) (share.AllBut missing) apart first second same = omega (arith, second, same)
leaves-together others now (share.Only these) (share.Only more) apart first second same = tt

-- what a third one leaves out
pub leaves-third : (others now : ℕ) (s t u : Share) → (IsFirst s → IsFirst u → ⊥) → (IsFirst t → IsFirst u → ⊥) → LeavesOut others u
    → (now + noted_in s) + noted_in t ≡ others + noted_in (together s t) → LeavesOut now u
leaves-third others now (share.AllBut missing) t (share.AllBut more) apart apart' third same = absurd (apart tt tt)
leaves-third others now (share.Only these) (share.AllBut missing) (share.AllBut more) apart apart' third same = absurd (apart' tt tt)
leaves-third others now (share.Only these) (share.Only others') (share.AllBut more) apart apart' third same = omega (arith, third, same)
leaves-third others now s t (share.Only these) apart apart' third same = tt

module _ {B E : Type 0} where
  -- the number of noted passes
  pub noted-set : (views : List (Known B E)) (id : ℕ) (v w : Known B E) → get_elem? views id ≡ some v
      → all_noted (set views id w) + noted_in v.share ≡ all_noted views + noted_in w.share
  noted-set [] id v w at = absurd (some-ne-none v (sym at))
  noted-set (x ∷ xs) zero v w at = let same : noted_in x.share ≡ noted_in v.share = ap (λ (k : Known B E). noted_in k.share) (some-injective x v at) in omega (arith, same)
  noted-set (x ∷ xs) (suc id) v w at = let next = noted-set xs id v w at in omega (arith, next)

  pub noted-push : (views : List (Known B E)) (w : Known B E) → all_noted (views ++ w ∷ []) ≡ all_noted views + noted_in w.share
  noted-push [] w = omega arith
  noted-push (x ∷ xs) w = let next = noted-push xs w in omega (arith, next)

  pub noted-at : (views : List (Known B E)) (id : ℕ) (v : Known B E) → get_elem? views id ≡ some v → noted_in v.share ≤ all_noted views
  noted-at [] id v at = absurd (some-ne-none v (sym at))
  noted-at (x ∷ xs) zero v at = let same : noted_in x.share ≡ noted_in v.share = ap (λ (k : Known B E). noted_in k.share) (some-injective x v at) in omega (arith, same)
  noted-at (x ∷ xs) (suc id) v at = let next = noted-at xs id v at in omega (arith, next)

  -- a seat changes, and stands for the passes that it stood for
  pub shares-set : (views : List (Known B E)) (id : ℕ) (v w : Known B E) → get_elem? views id ≡ some v → w.share ≡ v.share
      → ((seat : ℕ) (known : Known B E) → get_elem? views seat ≡ some known → LeavesOut (all_noted views) known.share)
      → (seat : ℕ) (known : Known B E) → get_elem? (set views id w) seat ≡ some known → LeavesOut (all_noted (set views id w)) known.share
  shares-set views id v w at same old seat known there =
      let count = noted-set views id v w at in
      let equal : noted_in w.share ≡ noted_in v.share = ap noted_in same in
      let all : all_noted views ≡ all_noted (set views id w) = omega (arith, count, equal) in
      subst (λ (n : ℕ). LeavesOut n known.share) all
      (⊎_elim (λ (x : (seat ≡ id) × (w ≡ known)). subst (λ (s : Share). LeavesOut (all_noted views) s) (sym same ∙ ap (λ (k : Known B E). k.share) x.1) (old id v at))
      (λ (x : (seat ≢ id) × (get_elem? views seat ≡ some known)). old seat known x.1)
      (at_set views id seat w known there))

  -- a seat changes, and still owns the positions that it owned
  pub owned-set : (views : List (Known B E)) (id : ℕ) (v w : Known B E) → get_elem? views id ≡ some v → ((place : ℕ) → IsIn place v.own → IsIn place w.own)
      → (place : ℕ) → IsOwned views place → IsOwned (set views id w) place
  owned-set views id v w at more place owned =
      dite (ℕ_discrete owned.owner id)
      (λ same. record {
        owner = id;
        known = w;
        there = set-at views id v w at;
        own = more place (subst (λ (k : Known B E). IsIn place k.own) (at-one views id owned.known v (subst (λ (n : ℕ). get_elem? views n ≡ some owned.known) same owned.there) at) owned.own);
      })
      (λ differ. record { owner = owned.owner; known = owned.known; there = set_else views id owned.owner w differ ∙ owned.there; own = owned.own })

  pub owned-push : (views : List (Known B E)) (w : Known B E) (place : ℕ) → IsOwned views place → IsOwned (views ++ w ∷ []) place
  owned-push views w place owned = record { owner = owned.owner; known = owned.known; there = at_longer views (w ∷ []) owned.owner owned.known owned.there; own = owned.own }

module _ {S B E : Type 0} (meaning : S → B → ℕ → List E → Type 0) (from : B) (earlier : ℕ) where
  -- what a seat owns, if no other one stands for a pass
  pub owned-alone : (log : List E) (drawn served : ℕ) (views : List (Known B E)) (id : ℕ) (v : Known B E)
      → ((seat : ℕ) (known : Known B E) → get_elem? views seat ≡ some known → Knows meaning from earlier log drawn served known)
      → ((seat other : ℕ) (a b : Known B E) → (seat ≡ other → ⊥) → get_elem? views seat ≡ some a → get_elem? views other ≡ some b → AreApart a b)
      → get_elem? views id ≡ some v → v.share ≡ whole → LeavesOut (all_noted views) v.share
      → (place : ℕ) → IsOwned views place → IsIn place v.own
  owned-alone log drawn served views id v knows apart at is leaves place owned =
      dite (ℕ_discrete owned.owner id)
      (λ same. subst (λ (k : Known B E). IsIn place k.own) (at-one views id owned.known v (subst (λ (n : ℕ). get_elem? views n ≡ some owned.known) same owned.there) at) owned.own)
      (λ differ. absurd (nobody owned.known (knows owned.owner owned.known owned.there)
      (λ first. (apart owned.owner id owned.known v differ owned.there at).firsts first (subst IsFirst (sym is) tt))
      (let low = noted-at views owned.owner owned.known owned.there in let none : 0 ≡ all_noted views = subst (λ (s : Share). LeavesOut (all_noted views) s) is leaves in omega (arith, low, none))
      owned.own))
    where
      any : (s : Share) → (IsFirst s → ⊥) → noted_in s ≡ 0 → HasAny s → ⊥
      any (share.AllBut missing) not none has = not tt
      any (share.Only these) not none has = omega (arith, none, has)

      nobody : (known : Known B E) → Knows meaning from earlier log drawn served known → (IsFirst known.share → ⊥) → noted_in known.share ≡ 0 → IsIn place known.own → ⊥
      nobody known knows not none own =
          ⊎_elim (λ (is : known ≡ spent). subst (λ (k : Known B E). IsIn place k.own) is own)
          (λ (true-one : IsTrue meaning from earlier log drawn served known). any known.share not none true-one.share) knows

  -- so it has seen the whole history, in which each position is its own
  pub alone : (log : List E) (drawn served : ℕ) (views : List (Known B E)) (id : ℕ) (v : Known B E)
      → ((seat : ℕ) (known : Known B E) → get_elem? views seat ≡ some known → Knows meaning from earlier log drawn served known)
      → ((seat other : ℕ) (a b : Known B E) → (seat ≡ other → ⊥) → get_elem? views seat ≡ some a → get_elem? views other ≡ some b → AreApart a b)
      → get_elem? views id ≡ some v → LeavesOut (all_noted views) v.share → ((place : ℕ) → place < length log → IsOwned views place)
      → ArePlaces 0 (length v.seen) v.own → (between : List E) → log ≡ v.seen ++ between
      → v.share ≡ whole → (between ≡ []) × (v.own ≡ all_places (length v.seen))
  alone log drawn served views id v knows apart at leaves owned are between begins is =
      in-all v.seen between v.own are (λ place low. owned-alone log drawn served views id v knows apart at is leaves place (owned place (subst (λ (l : List E). place < length l) (sym begins) low)))
