-- Gathering the passes of a service one after the other.
use Rattle.std.proofs.Common.{◌≡◌, ℕ, ◌+◌, ◌-◌, ◌*◌, length, arith, Bool, true, false, if◌then◌else◌, nat_le, List, [], ◌∷◌, ◌++◌, Option, None, Some, refl, sym, ap, ◌∙◌, subst, append_assoc, append-nil}
use Rattle.std.proofs.lemmas.List.Concat.{flat_map-append}
use Rattle.std.proofs.lemmas.List.Sorted.{IsPermutation-refl, IsPermutation-trans, IsPermutation-cons, IsPermutation-middle, IsPermutation-append, IsPermutation-append_comm}
use Rattle.std.specs.List.{AllByRecursion}
use Rattle.std.specs.List.Sorted.{IsPermutation}
use Rattle.shared_service.specs.service_tables.proofs.EachLemmas.{each-append, each-weaker}
use Rattle.shared_service.specs.service_desk.specs.Places.{Home}
use Rattle.shared_service.specs.shared_turn.specs.declared.share.Share.{Share}
use Rattle.shared_service.specs.shared_turn.specs.declared.share.Share.TheVariants as share
use Rattle.shared_service.specs.shared_turn.specs.Places.{inserted, merged}
use Rattle.shared_service.specs.shared_turn.specs.Shares.{whole, one, together, IsFirst}
use Rattle.shared_service.specs.Passes.{Seen, IsGathered}
use Rattle.service_hub.specs.Gathering.{IsBeginning, AreGathered, all_own, all_together}
use Rattle.service_hub.specs.Lending.{of_desk, missing_in}
use Rattle.service_hub.specs.Links.{ServedLink, IsOf, desk_told, all_passes}

-- a pass has seen what it has seen
pub begins-self : (pass : Seen) → IsBeginning pass pass
begins-self pass = record { table = refl; steady = refl; start = refl; before = refl; begins = ([], sym (append-nil pass.view.seen)) }

-- a beginning of a beginning is one
pub begins-through : (first mid last : Seen) → IsBeginning first mid → IsBeginning mid last → IsBeginning first last
begins-through first mid last begun other = record {
  table = other.table ∙ begun.table;
  steady = other.steady ∙ begun.steady;
  start = other.start ∙ begun.start;
  before = other.before ∙ begun.before;
  begins = (
    begun.begins.0 ++ other.begins.0,
    other.begins.1 ∙ (ap (λ l. l ++ other.begins.0) begun.begins.1 ∙ append_assoc first.view.seen begun.begins.0 other.begins.0),
  );
}

-- a place that is inserted is one more
inserted-by : (is_first : Bool) (place first : ℕ) (places : List ℕ) → IsPermutation (place ∷ places) (inserted place places)
    → IsPermutation (place ∷ first ∷ places) (if is_first then place ∷ first ∷ places else first ∷ inserted place places)
inserted-by true place first places rest = IsPermutation-refl (place ∷ first ∷ places)
inserted-by false place first places rest =
    IsPermutation-trans (place ∷ first ∷ places) (first ∷ place ∷ places) (first ∷ inserted place places) (IsPermutation-middle (place ∷ []) first places)
    (IsPermutation-cons first (place ∷ places) (inserted place places) rest)

inserted-one : (place : ℕ) (places : List ℕ) → IsPermutation (place ∷ places) (inserted place places)
inserted-one place [] = IsPermutation-refl (place ∷ [])
inserted-one place (first ∷ places) = inserted-by (nat_le place first) place first places (inserted-one place places)

-- merging two lists loses no place, and adds none
merged-all : (places others : List ℕ) → IsPermutation (places ++ others) (merged places others)
merged-all [] others = IsPermutation-refl others
merged-all (place ∷ places) others =
    IsPermutation-trans (place ∷ (places ++ others)) (place ∷ merged places others) (inserted place (merged places others))
    (IsPermutation-cons place (places ++ others) (merged places others) (merged-all places others)) (inserted-one place (merged places others))

-- first some were added, and then more
added-more : (own some more mid new : List ℕ) → IsPermutation (own ++ some) mid → IsPermutation (mid ++ more) new → IsPermutation (own ++ (more ++ some)) new
added-more own some more mid new first second =
    IsPermutation-trans (own ++ (more ++ some)) (own ++ (some ++ more)) new
    (IsPermutation-append own own (more ++ some) (some ++ more) (IsPermutation-refl own) (IsPermutation-append_comm more some))
    (subst (λ (l : List ℕ). IsPermutation l new) (append_assoc own some more)
    (IsPermutation-trans ((own ++ some) ++ more) (mid ++ more) new (IsPermutation-append (own ++ some) mid more more first (IsPermutation-refl more)) second))

-- at first a pass has taken over nothing
pub gathers-none : (pass : Seen) → AreGathered pass [] pass
gathers-none pass = record {
  began = begins-self pass;
  all = tt;
  own = subst (λ (l : List ℕ). IsPermutation l pass.view.own) (sym (append-nil pass.view.own)) (IsPermutation-refl pass.view.own);
  share = refl;
}

-- it takes over one pass more
pub gathers-one : (old mid new other : Seen) (passes : List Seen) → AreGathered old passes mid → other.home.table ≡ mid.home.table → IsGathered mid other new → AreGathered old (other ∷ passes) new
gathers-one old mid new other passes so table met =
    let table_is : new.home.table ≡ mid.home.table = ap (λ (s : Seen). s.home.table) met.is in
    let steady_is : new.steady ≡ mid.steady = ap (λ (s : Seen). s.steady) met.is in
    let start_is : new.view.start ≡ mid.view.start = ap (λ (s : Seen). s.view.start) met.is in
    let before_is : new.view.before ≡ mid.view.before = ap (λ (s : Seen). s.view.before) met.is in
    let more : IsBeginning mid new = record { table = table_is; steady = steady_is; start = start_is; before = before_is; begins = met.starts } in
    record {
      began = begins-through old mid new so.began more;
      all = (
        record {
          table = table_is ∙ sym table;
          steady = steady_is ∙ met.steady;
          start = start_is ∙ met.start;
          before = before_is ∙ met.before;
          begins = met.starts_other;
        },
        each-weaker (λ pass. IsBeginning pass mid) (λ pass. IsBeginning pass new) (λ pass began. begins-through pass mid new began more) passes so.all,
      );
      own = added-more old.view.own (all_own passes) other.view.own mid.view.own new.view.own so.own
          (subst (λ (s : Seen). IsPermutation (mid.view.own ++ other.view.own) s.view.own) (sym met.is) (merged-all mid.view.own other.view.own));
      share = ap (λ (s : Seen). s.home.share) met.is ∙ ap (λ (s : Share). together s other.home.share) so.share;
    }

together-append : (s : Share) (passes before : List Seen) → all_together (all_together s before) passes ≡ all_together s (passes ++ before)
together-append s [] before = refl
together-append s (pass ∷ passes) before = ap (λ (t : Share). together t pass.home.share) (together-append s passes before)

-- first these were gathered, and then those
pub gathers-more : (old mid new : Seen) (passes before : List Seen) → AreGathered old before mid → AreGathered mid passes new → AreGathered old (passes ++ before) new
gathers-more old mid new passes before first second = record {
  began = begins-through old mid new first.began second.began;
  all = each-append (λ pass. IsBeginning pass new) passes before second.all
      (each-weaker (λ pass. IsBeginning pass mid) (λ pass. IsBeginning pass new) (λ pass began. begins-through pass mid new began second.began) before first.all);
  own = subst (λ (l : List ℕ). IsPermutation (old.view.own ++ l) new.view.own) (sym (flat_map-append (λ (pass : Seen). pass.view.own) passes before))
      (added-more old.view.own (all_own before) (all_own passes) mid.view.own new.view.own first.own second.own);
  share = second.share ∙ (ap (λ (s : Share). all_together s passes) first.share ∙ together-append old.home.share passes before);
}

-- equal services and passes, if each is of a service that threads share
pub same-home : (one other : Home) → Some one ≡ Some other → one ≡ other
same-home one other e = ap value e
  where
    value : Option Home → Home
    value None = one
    value (Some home) = home

-- the first pass, by how many it lacks
pub first-is : (s : Share) → IsFirst s → s ≡ share.AllBut (missing_in s)
first-is (share.AllBut missing) is = refl
first-is (share.Only few) is = absurd is

module _ {R F S I O : Type 0} where
  -- the passes of desks of the service
  pub of-home : (home now : Home) (results : List (ServedLink R F S I O))
      → AllByRecursion (λ (s : ServedLink R F S I O). ((desk_told s.reader).home ≡ Some home) × ((desk_told s.writer).home ≡ Some home)) results → home ≡ now → AllByRecursion (IsOf now) results
  of-home home now [] all same = tt
  of-home home now (s ∷ ss) all same = ((same-home s.reader.pass.home home all.0.0 ∙ same, same-home s.writer.pass.home home all.0.1 ∙ same), of-home home now ss all.1 same)

  -- the desks of each connection have two passes
  all-lent : (home : Home) (missing : ℕ) (results : List (ServedLink R F S I O)) → AllByRecursion (IsOf (of_desk home)) results
      → all_together (share.AllBut missing) (all_passes results) ≡ share.AllBut (missing - 2 * length results)
  all-lent home missing [] all = ap (λ (n : ℕ). share.AllBut n) (omega arith)
  all-lent home missing (s ∷ ss) all =
      (λ i. together (together (all-lent home missing ss all.1 i) (all.0.1 i).share) (all.0.0 i).share) ∙ ap (λ (n : ℕ). share.AllBut n) (omega arith)

  -- so the pass that took over those of all desks and that of the hub is the only one
  pub whole-gathered : (home : Home) (hub : Seen) (results : List (ServedLink R F S I O)) → IsFirst hub.home.share → missing_in hub.home.share ≡ 1 + 2 * length results
      → AllByRecursion (IsOf (of_desk home)) results → all_together one (all_passes results ++ hub ∷ []) ≡ whole
  whole-gathered home hub results first lent all =
      sym (together-append one (all_passes results) (hub ∷ []))
      ∙ (ap (λ (s : Share). all_together (together one s) (all_passes results)) (first-is hub.home.share first)
      ∙ (all-lent home (missing_in hub.home.share - 1) results all ∙ ap (λ (n : ℕ). share.AllBut n) (omega (arith, lent))))

  pub all-pop : (P : ServedLink R F S I O → Type 0) (items : List (ServedLink R F S I O)) (last : ServedLink R F S I O) → AllByRecursion P (items ++ last ∷ []) → AllByRecursion P items × P last
  all-pop P [] last all = (tt, all.0)
  all-pop P (item ∷ items) last all = let rest = all-pop P items last all.1 in ((all.0, rest.0), rest.1)

  -- So far: the passes of the last connections were gathered, and these are left.
  pub record GatheredSoFar (old now : Seen) (items left : List (ServedLink R F S I O)) (passes : List Seen) : Type 0 where
    pub behind : List (ServedLink R F S I O)
    pub are : items ≡ left ++ behind
    pub of_it : AllByRecursion (IsOf (of_desk old.home)) left
    pub gathered : AreGathered old (all_passes behind ++ passes) now

  pub none-gathered : (old : Seen) (items : List (ServedLink R F S I O)) → AllByRecursion (IsOf (of_desk old.home)) items → GatheredSoFar old old items items []
  none-gathered old items all = record { behind = []; are = sym (append-nil items); of_it = all; gathered = gathers-none old }

  -- those of one more connection were gathered: first the writer's, then the reader's
  pub one-gathered : (old now mid new : Seen) (items left rest : List (ServedLink R F S I O)) (served : ServedLink R F S I O) (passes : List Seen) → GatheredSoFar old now items left passes → left ≡ rest ++ served ∷ []
      → IsGathered now served.writer.pass mid → IsGathered mid served.reader.pass new → GatheredSoFar old new items rest passes
  one-gathered old now mid new items left rest served passes so is writes reads =
      let all = all-pop (IsOf (of_desk old.home)) rest served (subst (λ (l : List (ServedLink R F S I O)). AllByRecursion (IsOf (of_desk old.home)) l) is so.of_it) in
      let first = gathers-one old now mid served.writer.pass (all_passes so.behind ++ passes) so.gathered (ap (λ (h : Home). h.table) all.1.1 ∙ sym so.gathered.began.table) writes in
      record {
        behind = served ∷ so.behind;
        are = so.are ∙ (ap (λ (l : List (ServedLink R F S I O)). l ++ so.behind) is ∙ append_assoc rest (served ∷ []) so.behind);
        of_it = all.0;
        gathered = gathers-one old mid new served.reader.pass (served.writer.pass ∷ (all_passes so.behind ++ passes)) first (ap (λ (h : Home). h.table) all.1.0 ∙ sym first.began.table) reads;
      }

  -- all were gathered
  pub all-gathered : (old now : Seen) (items left : List (ServedLink R F S I O)) → GatheredSoFar old now items left [] → left ≡ [] → AreGathered old (all_passes items) now
  all-gathered old now items left so none =
      subst (λ (passes : List Seen). AreGathered old passes now)
      (append-nil (all_passes so.behind) ∙ ap all_passes (sym (so.are ∙ ap (λ (l : List (ServedLink R F S I O)). l ++ so.behind) none)))
      so.gathered
