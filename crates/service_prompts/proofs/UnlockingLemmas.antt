-- The targets for given objects are sound in a sound state, and so are the paths of the objects that are unlocked.
use Rattle.std.proofs.Common.{◌≡◌, ℕ, Bool, true, false, cond, List, [], ◌∷◌, ◌++◌, Option, Some, None, refl, ap, subst}
use Rattle.std.specs.List.{AllByRecursion, cons_option, filter_map, fold}
use Rattle.std.specs.Option.{is_some, option_and_then, option_map_or}
use Rattle.std.proofs.lemmas.Option.{none-some}
use Rattle.kr_base.specs.Stem.{IsStem}
use Rattle.kr_names.specs.declared.object_name.ObjectName.{ObjectName}
use Rattle.kr_names.specs.declared.object_name.ObjectName.TheVariants as name
use Rattle.kr_names.specs.Path.{IsName}
use Rattle.prompt_state.specs.declared.targets.Target.{Target}
use Rattle.service_tables.specs.secret_calls.specs.Outs.{ArePaths}
use Rattle.service_tables.specs.Objects.{collection_around, is_listed}
use Rattle.service_tables.specs.Opened.{Contents}
use Rattle.service_tables.specs.TablesReading.{asked_collections}
use Rattle.service_tables.specs.Sound.{AreSoundCollections, IsSoundTarget}
use Rattle.service_tables.proofs.CollectionLemmas.{named-paths, named-stem, once-each, path-of, there-named}
use Rattle.service_tables.proofs.EachLemmas.{each-append}
use Rattle.service_prompts.specs.Unlocking.{given_of, is_unlocked, target_of, target_unless, targets_of, unlocked_there, with_target}

-- ---- the collection that an object is, stands for or is in

around-name : (contents : Contents) → AreSoundCollections contents.collections → (object : ObjectName) (stem : List ℕ) → collection_around (asked_collections contents) object ≡ Some stem → IsName object
around-name contents sound object stem is = there-named contents sound object (ap is_some is)

around-stem : (contents : Contents) → AreSoundCollections contents.collections → (object : ObjectName) (stem : List ℕ) → collection_around (asked_collections contents) object ≡ Some stem → IsStem stem
around-stem contents sound (name.Item named item) stem is =
    let sure = (around-name contents sound (name.Item named item) stem is).0 in
    let pass : (b : Bool) → cond b (Some named) None ≡ Some stem → IsStem stem =
    elim [ true ↦ λ found. (let same : named ≡ stem = cc in subst IsStem same sure) | false ↦ λ found. absurd (none-some stem found) ] in
    pass ((asked_collections contents).has_item named item) is
around-stem contents sound (name.Collection named) stem is = named-stem contents sound (name.Collection named) stem is
around-stem contents sound (name.Alias alias) stem is = named-stem contents sound (name.Alias alias) stem is
around-stem contents sound name.Nothing stem is = named-stem contents sound name.Nothing stem is
around-stem contents sound name.Service stem is = named-stem contents sound name.Service stem is
around-stem contents sound name.Agent stem is = named-stem contents sound name.Agent stem is
around-stem contents sound (name.Session session) stem is = named-stem contents sound (name.Session session) stem is
around-stem contents sound (name.Prompt prompt) stem is = named-stem contents sound (name.Prompt prompt) stem is

-- ---- targets

one-sound : (contents : Contents) → AreSoundCollections contents.collections → (object : ObjectName) (more : List Target) → AllByRecursion IsSoundTarget more
    → AllByRecursion IsSoundTarget (cons_option (target_of (asked_collections contents) object) more)
one-sound contents sound object more all =
    let asked = asked_collections contents in
    let inner : (b : Bool) (stem : List ℕ) → IsName object → IsStem stem → AllByRecursion IsSoundTarget (cons_option (target_unless b object stem) more) =
    elim [
      | true ↦ λ stem named is. all
      | false ↦ λ stem named is. (record { given = path-of object named; stem = is }, all)
    ] in
    let pass : (o : Option (List ℕ)) → collection_around asked object ≡ o
    → AllByRecursion IsSoundTarget (cons_option (option_and_then (λ stem. target_unless (asked.is_open stem) object stem) o) more) =
    elim [
      | None ↦ λ is. all
      | Some stem ↦ λ is. inner (asked.is_open stem) stem (around-name contents sound object stem is) (around-stem contents sound object stem is)
    ] in
    pass (collection_around asked object) refl

each-sound : (contents : Contents) → AreSoundCollections contents.collections → (objects : List ObjectName) → AllByRecursion IsSoundTarget (filter_map (target_of (asked_collections contents)) objects)
each-sound contents sound [] = tt
each-sound contents sound (object ∷ objects) = one-sound contents sound object (filter_map (target_of (asked_collections contents)) objects) (each-sound contents sound objects)

with-sound : (listed : List Target) (target : Target) → AllByRecursion IsSoundTarget listed → IsSoundTarget target → AllByRecursion IsSoundTarget (with_target listed target)
with-sound listed target all one =
    let pass : (b : Bool) → AllByRecursion IsSoundTarget (cond b listed (listed ++ target ∷ [])) =
    elim [ true ↦ all | false ↦ each-append IsSoundTarget listed (target ∷ []) all (one, tt) ] in
    pass (is_listed target.given (given_of listed))

fold-sound : (listed targets : List Target) → AllByRecursion IsSoundTarget listed → AllByRecursion IsSoundTarget targets → AllByRecursion IsSoundTarget (fold with_target listed targets)
fold-sound listed [] all rest = all
fold-sound listed (target ∷ targets) all rest = fold-sound (with_target listed target) targets (with-sound listed target all rest.0) rest.1

-- the targets for given objects are sound
pub targets-sound : (contents : Contents) → AreSoundCollections contents.collections → (objects : List ObjectName) → AllByRecursion IsSoundTarget (targets_of (asked_collections contents) objects)
targets-sound contents sound objects = fold-sound [] (filter_map (target_of (asked_collections contents)) objects) tt (each-sound contents sound objects)

-- ---- objects that are unlocked

unlocked-named : (contents : Contents) → AreSoundCollections contents.collections → (object : ObjectName) → is_unlocked (asked_collections contents) object ≡ true → IsName object
unlocked-named contents sound object is =
    let asked = asked_collections contents in
    let pass : (o : Option (List ℕ)) → collection_around asked object ≡ o → option_map_or asked.is_open o false ≡ true → IsName object =
    elim [
      | None ↦ λ at yes. absurd (let no : false ≡ true = yes in cc)
      | Some stem ↦ λ at yes. around-name contents sound object stem at
    ] in
    pass (collection_around asked object) refl is

-- the paths of the objects that are unlocked are object paths
pub unlocked-paths : (contents : Contents) → AreSoundCollections contents.collections → (objects : List ObjectName) → ArePaths (unlocked_there (asked_collections contents) objects)
unlocked-paths contents sound objects =
    named-paths _ (once-each IsName (is_unlocked (asked_collections contents)) (λ object is. unlocked-named contents sound object is) objects)
