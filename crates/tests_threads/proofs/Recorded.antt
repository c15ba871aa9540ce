-- What the clauses of a shared service's calls say of what a pass owns.
use Rattle.std.proofs.Common.{◌≡◌, ℕ, ◌+◌, List, [], ◌∷◌, ◌++◌, length, Option, Result, Ok, Err, IfOk, IfErr, OnErr, Some, None, nat_le, if◌then◌else◌, Bool, true, false, refl, sym, ap, ◌∙◌, subst, arith, append-nil}
use Rattle.std.proofs.lemmas.List.{length_push, append_assoc}
use Rattle.kr_base.specs.declared.ids.ConnId.{ConnId}
use Rattle.service_events.specs.declared.event.Event.{Event}
use Rattle.service_events.specs.declared.event.Output.{Output}
use Rattle.secret_calls.specs.declared.taken.Refused.{Refused}
use Rattle.secret_calls.specs.declared.work.Work.{Work}
use Rattle.service_events.specs.declared.event.Arrival.{Arrival}
use Rattle.secret_calls.specs.declared.taken.Taken.{Taken}
use Rattle.secret_calls.specs.declared.taken.Taken.TheVariants as taken
use Rattle.service_events.specs.declared.event.JoinRefused.{JoinRefused}
use Rattle.service_desk.specs.Calls.{Arrives, Takes}
use Rattle.service_desk.specs.Places.{Home, Looks, Extends}
use Rattle.service_desk.specs.Views.{View, with_others, with_own}
use Rattle.shared_turn.specs.Places.{StartsWith, inserted, merged}
use Rattle.shared_turn.specs.declared.share.Share.{Share}
use Rattle.shared_turn.specs.declared.share.Share.TheVariants as share
use Rattle.shared_turn.specs.Shares.{without, together, IsFirst}
use Rattle.shared_service.specs.Passes.{Seen, spot, noted, left_by, giving, IsGathered, IsRefused}
use Rattle.tests_threads.specs.Recorded.{Owns}

-- what was seen begins with what was seen before
pub starts-through : (last log seen : List Event) → StartsWith last log → StartsWith log seen → StartsWith last seen
starts-through last log seen more starts = (starts.0 ++ more.0, more.1 ∙ (ap (λ l. l ++ more.0) starts.1 ∙ append_assoc seen starts.0 more.0))

module _ (conn other : ConnId) (home : Home) (steady : Bool) (old new : View) where
  extends-starts : (event : Event) (answer : Output) → Extends (spot conn home steady old) (spot other home steady new) event answer → StartsWith new.seen old.seen
  extends-starts event answer extends = (
    extends.between ++ event ∷ [],
    sym (ap (λ (v : View). v.seen) (extends.views old refl)) ∙ append_assoc old.seen extends.between (event ∷ []),
  )

  looks-starts : Looks (spot conn home steady old) (spot other home steady new) → StartsWith new.seen old.seen
  looks-starts looks = (looks.between, sym (ap (λ (v : View). v.seen) (looks.views old refl)))

  -- what was seen begins with what was seen before, whether the request was recorded or not
  pub arrives-starts : (arrival : Arrival) (result : Result (Option Work) Refused) → IfOk result (Arrives (spot conn home steady old) (spot other home steady new) arrival)
      → OnErr result (Looks (spot conn home steady old) (spot other home steady new)) → StartsWith new.seen old.seen
  arrives-starts arrival (Ok work) arrives looks = extends-starts _ _ arrives.recorded
  arrives-starts arrival (Err refused) arrives looks = looks-starts looks

pub some-not-none : {A : Type 0} (value : A) → ◌≡◌ {A = Option A} (Some value) None → ⊥
some-not-none value e = cc

-- how many events a call of `take` that returned this has recorded
abbrev pub recorded_by : Taken → ℕ
recorded_by (taken.Outs outs) = 1
recorded_by taken.Empty = 0
recorded_by taken.Overrun = 0
recorded_by taken.Closed = 1
recorded_by taken.Missing = 0

-- the first pass stays the first one
pub first-without : (number : ℕ) (s : Share) → IsFirst s → IsFirst (without number s)
first-without number (share.AllBut missing) is = tt
first-without number (share.Only few) is = absurd is

pub first-together : (s t : Share) → IsFirst s → IsFirst (together s t)
first-together (share.AllBut missing) (share.AllBut others) is = tt
first-together (share.AllBut missing) (share.Only few) is = tt
first-together (share.Only few) t is = absurd is

-- a pass that is where another one was is of the same service, and the first one if that was
pub table-kept : (old new : Seen) → new.home ≡ old.home → new.home.table ≡ old.home.table
table-kept old new same = ap (λ (h : Home). h.table) same

pub first-kept : (old new : Seen) → new.home ≡ old.home → IsFirst old.home.share → IsFirst new.home.share
first-kept old new same is = subst (λ (h : Home). IsFirst h.share) (sym same) is

pub table-left : (old new : Seen) → new.home ≡ left_by 2 old.home → new.home.table ≡ old.home.table
table-left old new left = ap (λ (h : Home). h.table) left

pub first-left : (old new : Seen) → new.home ≡ left_by 2 old.home → IsFirst old.home.share → IsFirst new.home.share
first-left old new left is = subst (λ (h : Home). IsFirst h.share) (sym left) (first-without 2 old.home.share is)

module _ (steady : Bool) (old new : Seen) (table : new.home.table ≡ old.home.table) (first : IsFirst old.home.share → IsFirst new.home.share) where
  -- an event was recorded
  pub extends-owns : (conn other : ConnId) (event : Event) (answer : Output) → Extends (spot conn old.home steady old.view) (spot other old.home steady new.view) event answer → Owns 1 old new
  extends-owns conn other event answer extends = record {
    table = table;
    first = first;
    seen = extends-starts conn other old.home steady old.view new.view event answer extends;
    own = sym (ap (λ (v : View). length v.own) (extends.views old.view refl)) ∙ length_push old.view.own (length (old.view.seen ++ extends.between));
  }

  -- nothing was recorded
  pub looks-owns : (conn : ConnId) → Looks (spot conn old.home steady old.view) (spot conn old.home steady new.view) → Owns 0 old new
  looks-owns conn looks =
      let same = ap (λ (v : View). length v.own) (looks.views old.view refl) in record {
        table = table;
        first = first;
        seen = looks-starts conn conn old.home steady old.view new.view looks;
        own = omega (arith, same);
      }

  -- a request was recorded
  pub arrives-owns : (conn : ConnId) (arrival : Arrival) (result : Result (Option Work) Refused) (work : Option Work) → result ≡ Ok work
      → IfOk result (Arrives (spot conn old.home steady old.view) (spot conn old.home steady new.view) arrival) → Owns 1 old new
  arrives-owns conn arrival result work is arrives =
      let came : Arrives (spot conn old.home steady old.view) (spot conn old.home steady new.view) arrival work =
      subst (λ (r : Result (Option Work) Refused). IfOk r (Arrives (spot conn old.home steady old.view) (spot conn old.home steady new.view) arrival)) is arrives in
      extends-owns conn conn _ _ came.recorded

  -- a request was refused
  pub refuses-owns : (conn : ConnId) (result : Result (Option Work) Refused) (refused : Refused) → result ≡ Err refused
      → OnErr result (Looks (spot conn old.home steady old.view) (spot conn old.home steady new.view)) → Owns 0 old new
  refuses-owns conn result refused is looks =
      looks-owns conn (subst (λ (r : Result (Option Work) Refused). OnErr r (Looks (spot conn old.home steady old.view) (spot conn old.home steady new.view))) is looks)

  -- no connection joined
  pub crowded-owns : {T : Type 0} (result : Result T JoinRefused) (refused : JoinRefused) → result ≡ Err refused
      → IfErr result (λ refused. IsRefused old.home steady refused old.view new.view) → Owns 0 old new
  crowded-owns {T} result refused is cause =
      let looks = subst (λ (r : Result T JoinRefused). IfErr r (λ refused. IsRefused old.home steady refused old.view new.view)) is cause in
      looks-owns (record { 0 = 1 }) (looks.0 (record { 0 = 1 }))

  -- what `take` returned shows what it recorded
  pub takes-owns : (conn : ConnId) (given : Taken) → Takes (spot conn old.home steady old.view) (spot conn old.home steady new.view) given → Owns (recorded_by given) old new
  takes-owns conn (taken.Outs outs) takes = extends-owns conn conn _ _ takes
  takes-owns conn taken.Empty takes = looks-owns conn takes.0
  takes-owns conn taken.Overrun takes = looks-owns conn takes.0
  takes-owns conn taken.Closed takes = extends-owns conn conn _ _ takes.0
  takes-owns conn taken.Missing takes = looks-owns conn takes.0

inserted-one : (place first : ℕ) (others : List ℕ) (b : Bool) → length (inserted place others) ≡ length others + 1
    → length (if b then place ∷ first ∷ others else first ∷ inserted place others) ≡ length (first ∷ others) + 1
inserted-one place first others true more = omega arith
inserted-one place first others false more = omega (arith, more)

length-inserted : (place : ℕ) (places : List ℕ) → length (inserted place places) ≡ length places + 1
length-inserted place [] = refl
length-inserted place (first ∷ others) = inserted-one place first others (nat_le place first) (length-inserted place others)

length-merged : (places others : List ℕ) → length (merged places others) ≡ length places + length others
length-merged [] others = omega arith
length-merged (place ∷ places) others =
    let one = length-inserted place (merged places others) in let rest = length-merged places others in omega (arith, one, rest)

-- the pass owns what it owned, and what the other one did
pub gathered-owns : (old other new : Seen) → IsGathered old other new → Owns (length other.view.own) old new
gathered-owns old other new met = record {
  table = ap (λ (s : Seen). s.home.table) met.is;
  first = λ is. subst (λ (s : Seen). IsFirst s.home.share) (sym met.is) (first-together old.home.share other.home.share is);
  seen = met.starts;
  own = ap (λ (s : Seen). length s.view.own) met.is ∙ length-merged old.view.own other.view.own;
}

-- a note of the pass recorded so many events, and was gathered
pub apart-owns : (more : ℕ) (pass note asked new : Seen) → note ≡ noted pass → Owns more note asked → IsGathered (giving 1 pass) asked new → Owns more pass new
apart-owns more pass note asked new is owns met =
    let all = gathered-owns (giving 1 pass) asked new met in record {
      table = all.table;
      first = λ is. all.first (first-without 1 pass.home.share is);
      seen = all.seen;
      own = let none = ap (λ (s : Seen). length s.view.own) is in let mine = owns.own in let both = all.own in omega (arith, none, mine, both);
    }
