-- The test of size, the collections that are locked, and what a plan leads to whose return is too large.
use Rattle.std.proofs.Common.{◌≡◌, ℕ, ◌+◌, ◌<◌, length, get_or, drop, Bool, true, false, cond, List, [], ◌∷◌, map, Option, Some, None, Ok, Err, IfOk, IfErr, OnErr, refl, sym, ap, subst, ◌∙◌}
use Rattle.std.proofs.lemmas.List.{at_drop_more}
use Rattle.kr_base.specs.declared.ids.ConnId.{ConnId}
use Rattle.kr_outside.specs.RenameDisk.{Image}
use Rattle.service_events.specs.collection_store.specs.declared.change.Changed.{Changed}
use Rattle.service_events.specs.secret_calls.specs.declared.out.Body.{Body}
use Rattle.service_events.specs.secret_calls.specs.declared.out.ErrorName.{ErrorName}
use Rattle.service_events.specs.secret_calls.specs.declared.out.ErrorName.TheVariants as name
use Rattle.service_events.specs.service_tables.specs.Disk.{DiskState}
use Rattle.service_events.specs.service_tables.specs.State.{State}
use Rattle.service_events.specs.service_tables.specs.Storing.{Brought, storable_at}
use Rattle.service_events.specs.CollectionCalls.{storing}
use Rattle.service_events.specs.Plan.{Begin_prompt, Lock_collection, Plan, Store, answered, refused}
use Rattle.service_events.specs.PublicBody.{PublicBody, body_with}
use Rattle.service_events.specs.Run.{asked, bounded, is_small, performed, performed_all}
use Rattle.service_events.specs.ServiceCalls.{with_new_prompt}
use Rattle.service_calls.specs.declared.effect.Effect.{Effect}
use Rattle.service_calls.specs.declared.effect.Effect.TheVariants as effect
use Rattle.service_calls.specs.Done.{Leads}
use Rattle.service_calls.specs.Effect.{Plans}
use Rattle.service_calls.proofs.LeadsLemmas.{leads-as, leads-large, leads-refused, leads-unasked}

-- ---- the test

-- what passes is the same, and small
pub bounded-ok : (body passed : Body) → bounded (Ok body) ≡ Ok passed → (passed ≡ body) × (is_small passed ≡ true)
bounded-ok body passed is =
    let pass : (b : Bool) → is_small body ≡ b → cond b (Ok body) (Err name.LimitsExceeded) ≡ Ok passed → (passed ≡ body) × (is_small passed ≡ true) =
    elim [
      | true ↦ λ small same. let it : passed ≡ body = subst (λ r. IfOk r (λ p. p ≡ body)) same refl in (it, ap is_small it ∙ small)
      | false ↦ λ large no. absurd (subst (λ r. IfOk r (λ _. ⊥)) no tt)
    ] in
    pass (is_small body) refl is

-- what doesn't is LimitsExceeded, and large
pub bounded-err : (body : Body) (error : ErrorName) → bounded (Ok body) ≡ Err error → (error ≡ name.LimitsExceeded) × (is_small body ≡ false)
bounded-err body error is =
    let pass : (b : Bool) → is_small body ≡ b → cond b (Ok body) (Err name.LimitsExceeded) ≡ Err error → (error ≡ name.LimitsExceeded) × (is_small body ≡ false) =
    elim [
      | true ↦ λ small no. absurd (subst (λ r. OnErr r ⊥) no tt)
      | false ↦ λ large same. (subst (λ r. IfErr r (λ e. e ≡ name.LimitsExceeded)) same refl, large)
    ] in
    pass (is_small body) refl is

-- ---- locking

-- after the first of those that are left is locked, what the rest leads to is what all of them do
pub locks-next : (caller : ConnId) (stems : List (List ℕ)) (i : ℕ) (stem : List ℕ) (here next start : State) → i < length stems → stem ≡ get_or stems i stem → next ≡ performed caller (Lock_collection stem) here
    → performed_all caller (map Lock_collection (drop i stems)) here ≡ performed_all caller (map Lock_collection stems) start
    → performed_all caller (map Lock_collection (drop (i + 1) stems)) next ≡ performed_all caller (map Lock_collection stems) start
locks-next caller stems i stem here next start more is locked so_far =
    let rest = map Lock_collection (drop (i + 1) stems) in
    ap (performed_all caller rest) locked
    ∙ ap (λ stem. performed_all caller rest (performed caller (Lock_collection stem) here)) is
    ∙ sym (at_drop_more (λ left. performed_all caller (map Lock_collection left) here) stems i stem more)
    ∙ so_far

-- ---- a return that is too large

-- whatever the effect of a call is, it has none if its return is too large
module _ {F S : Type 0} (folder_honest folder_steady : F → Bool) (folder_faults : F → ℕ) (images : F → List ℕ → Image) (folder_leaves : F → List ℕ → Image → Type 0) (names_made : F → List (List ℕ)) (is_honest is_steady : S → Bool) (faults moment : S → ℕ) (left_since : S → ℕ → Image → Type 0) (may_leave : S → Image → Type 0)
    (caller : ConnId) (brought : Brought) (before : State) (disk : DiskState F S) (its : PublicBody) (large : is_small (body_with its) ≡ false) where
  abbrev To : Plan → Type 0
  To plan = Leads folder_honest folder_steady folder_faults images folder_leaves names_made is_honest is_steady faults moment left_since may_leave caller brought plan before before disk disk (record { answer = Err name.LimitsExceeded; sends = []; read = None; fate = None })

  -- one plan is another
  also : (plan other : Plan) → plan ≡ other → To other → To plan
  also plan other same to = leads-as folder_honest folder_steady folder_faults images folder_leaves names_made is_honest is_steady faults moment left_since may_leave caller brought before before disk disk plan other _ same to

  refuses : To (refused name.LimitsExceeded)
  refuses = leads-refused folder_honest folder_steady folder_faults images folder_leaves names_made is_honest is_steady faults moment left_since may_leave caller brought before before disk disk name.LimitsExceeded refl refl

  pub leads-no_effect : (effect : Effect) (plan : Plan) → Plans caller brought before its effect plan → To plan
  leads-no_effect (effect.Lock stems) plan is =
      also plan _ is (leads-large folder_honest folder_steady folder_faults images folder_leaves names_made is_honest is_steady faults moment left_since may_leave caller brought before before disk disk its (map Lock_collection stems.stems) large refl refl)
  leads-no_effect (effect.Begin kind) plan is =
      let pass : (b : Bool) → To (cond b (refused name.LimitsExceeded) (answered its (Begin_prompt kind ∷ []))) =
      elim [ true ↦ refuses | false ↦ leads-large folder_honest folder_steady folder_faults images folder_leaves names_made is_honest is_steady faults moment left_since may_leave caller brought before before disk disk its (Begin_prompt kind ∷ []) large refl refl ] in
      also plan (with_new_prompt true (λ _. its) kind (asked caller brought before)) is (pass (asked caller brought before).prompts.is_full)
  leads-no_effect (effect.Store stem change answer now) plan (edit, brings, at, is) =
      let pass : (o : Option Changed) → To (storing stem.now edit (λ _. its) o) =
      elim [ None ↦ refuses | Some made ↦ leads-unasked folder_honest folder_steady folder_faults images folder_leaves names_made is_honest is_steady faults moment left_since may_leave caller brought before before disk disk (Store stem.now edit) its large refl refl ] in
      also plan _ is (pass (storable_at stem.now change now before.collections))
