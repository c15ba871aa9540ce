-- What changes of the prompts, and of the connections, leave the prompts sound.
use Rattle.std.proofs.Common.{◌≡◌, ℕ, ◌+◌, ◌<◌, ◌≤◌, Bool, true, false, cond, not, nat_eq, IsTrue, IfSome, List, [], ◌∷◌, find, map, Option, Some, None, refl, sym, subst, ◌∙◌, arith}
use Rattle.std.specs.List.{AllByRecursion}
use Rattle.std.proofs.lemmas.Bool.Decides.{nat_tests}
use Rattle.std.proofs.lemmas.List.Sums.{sum_by-cons, sum_by_push}
use Rattle.kr_base.specs.declared.ids.ConnId.{ConnId}
use Rattle.kr_base.specs.declared.ids.PromptId.{PromptId}
use Rattle.prompt_state.specs.Prompts.{AreRising, IsStage, abandoned, answered, asked, asked_again, asked_from, begun, changed, cleared, ended, is_agent, is_conn, is_full, is_made, is_of, is_prompt, kind_with, last_round, next_round, no_prompts, one_more, registered, row_at, staged, targeted, unanswered, unanswered_row, unregistered, without, wronged}
use Rattle.prompt_state.specs.Targets.{TargetLists, first_done, first_dropped, rest_of, with_first_of}
use Rattle.prompt_state.specs.declared.row.PromptKind.{PromptKind}
use Rattle.prompt_state.specs.declared.row.PromptKind.TheVariants.{Unlock, Create, Change}
use Rattle.prompt_state.specs.declared.row.PromptRow.{PromptRow}
use Rattle.prompt_state.specs.declared.row.Prompts.{Prompts}
use Rattle.prompt_state.specs.declared.row.Stage.{Stage}
use Rattle.prompt_state.specs.declared.row.Stage.TheVariants.{Made, Asked, Deriving}
use Rattle.prompt_state.specs.declared.targets.Target.{Target}
use Rattle.prompt_state.proofs.IndexLemmas.{keeps-unanswered}
use Rattle.prompt_state.proofs.SoundLemmas.{IsKeeping, room-of, sound-begun, sound-changed, sound-filter, sound-map}
use Rattle.service_tables.specs.Connections.{has}
use Rattle.service_tables.specs.Connections as connections
use Rattle.service_tables.specs.Sound.{AreSoundPrompts, AreSoundTargets, HasLeft, IsSoundKind, IsSoundPrompt, IsSoundTarget}
use Rattle.service_tables.specs.Targets.{weight, weight_of}
use Rattle.service_tables.specs.signal_fanout.specs.declared.rows.ConnRow.{ConnRow}
use Rattle.service_tables.proofs.EachLemmas.{each-append, each-filter, each-mapped, each-passing, each-weaker}
use Rattle.service_tables.proofs.TableLemmas.{has-without}

-- ---- the start, and other connections

pub prompts-none : (conns : List ConnRow) → AreSoundPrompts conns no_prompts
prompts-none conns = record {
  kept = record { first = omega arith; numbers = tt; given = tt; rising = tt; rounds = tt; few = λ owner. omega arith; numbered = omega arith };
  each = tt;
  owned = tt;
  agent = tt;
}

-- prompts among other connections, of which none is missing
pub prompts-among : (old new : List ConnRow) → ((conn : ConnId) → has conn old ≡ true → has conn new ≡ true) → (prompts : Prompts) → AreSoundPrompts old prompts → AreSoundPrompts new prompts
prompts-among old new there prompts sound =
    let pass : (o : Option ConnId) → IfSome o (λ agent. IsTrue (has agent old)) → IfSome o (λ agent. IsTrue (has agent new)) =
    elim [ None ↦ λ is. tt | Some agent ↦ λ is. there agent is ] in
    record {
      kept = sound.kept;
      each = sound.each;
      owned = each-weaker _ _ (λ row. there row.owner) prompts.rows sound.owned;
      agent = pass prompts.agent sound.agent;
    }

-- ---- a prompt is begun

pub prompts-begun : (conns : List ConnRow) (owner : ConnId) (kind : PromptKind) (prompts : Prompts) → has owner conns ≡ true → is_full owner prompts ≡ false → IsSoundKind kind → AreSoundPrompts conns prompts
    → AreSoundPrompts conns (begun owner kind prompts)
prompts-begun conns owner kind prompts there full is sound =
    let room = room-of owner prompts full in
    record {
      kept = sound-begun owner kind prompts full sound.kept;
      each = each-append IsSoundPrompt prompts.rows _ sound.each (record { number = omega (arith, room.1); wrong = omega arith; kind = is; left = λ made. absurd (let no : true ≡ false = made in cc) }, tt);
      owned = each-append _ prompts.rows _ sound.owned (there, tt);
      agent = sound.agent;
    }

-- ---- a change of one prompt

-- what is true of the row that is found is true of each row with its number, since no other one has it
none-later : (prompt : PromptId) (n : ℕ) (Q : PromptRow → Type 0) (rows : List PromptRow) → nat_eq n prompt.0 ≡ true → AllByRecursion (λ (other : PromptRow). n < other.prompt.0) rows
    → AllByRecursion (λ (row : PromptRow). is_prompt prompt row ≡ true → Q row) rows
none-later prompt n Q [] is above = tt
none-later prompt n Q (row ∷ rows) is above =
    let over : n < row.prompt.0 = above.0 in
    let off : nat_eq row.prompt.0 prompt.0 ≡ false = grind (arith, nat_tests) in
    (λ here. absurd (let no : false ≡ true = sym off ∙ here in cc), none-later prompt n Q rows is above.1)

at-row : (prompt : PromptId) (Q : PromptRow → Type 0) (rows : List PromptRow) → AreRising rows → ((row : PromptRow) → find (is_prompt prompt) rows ≡ Some row → Q row)
    → AllByRecursion (λ (row : PromptRow). is_prompt prompt row ≡ true → Q row) rows
at-row prompt Q [] rising says = tt
at-row prompt Q (row ∷ rows) rising says =
    let pass : (b : Bool) → is_prompt prompt row ≡ b → AllByRecursion (λ (row : PromptRow). is_prompt prompt row ≡ true → Q row) (row ∷ rows) =
    elim [
      | true ↦ λ is. (λ here. says row (rw is refl), none-later prompt row.prompt.0 Q rows is rising.0)
      | false ↦ λ is. (λ here. absurd (let no : false ≡ true = sym is ∙ here in cc), at-row prompt Q rows rising.1 (λ other found. says other (rw is found)))
    ] in
    pass (is_prompt prompt row) refl

module _ (prompt : PromptId) (f : PromptRow → PromptRow) where
  each-changed : (rows : List PromptRow) → AllByRecursion IsSoundPrompt rows → AllByRecursion (λ (row : PromptRow). is_prompt prompt row ≡ true → IsSoundPrompt (f row)) rows
      → AllByRecursion IsSoundPrompt (map (λ row. cond (is_prompt prompt row) (f row) row) rows)
  each-changed [] all new = tt
  each-changed (row ∷ rows) all new =
      let pass : (b : Bool) → is_prompt prompt row ≡ b → IsSoundPrompt (cond b (f row) row) = elim [ true ↦ λ is. new.0 is | false ↦ λ is. all.0 ] in
      (pass (is_prompt prompt row) refl, each-changed rows all.1 new.1)

  owned-changed : IsKeeping f → (conns : List ConnRow) (rows : List PromptRow) → AllByRecursion (λ (row : PromptRow). IsTrue (has row.owner conns)) rows
      → AllByRecursion (λ (row : PromptRow). IsTrue (has row.owner conns)) (map (λ row. cond (is_prompt prompt row) (f row) row) rows)
  owned-changed keeps conns [] all = tt
  owned-changed keeps conns (row ∷ rows) all =
      let new = subst (λ (owner : ConnId). IsTrue (has owner conns)) (sym (keeps.owner row)) all.0 in
      let pass : (b : Bool) → IsTrue (has (cond b (f row) row).owner conns) = elim [ true ↦ new | false ↦ all.0 ] in
      (pass (is_prompt prompt row), owned-changed keeps conns rows all.1)

  joined : (rows : List PromptRow) → AllByRecursion IsSoundPrompt rows → AllByRecursion (λ (row : PromptRow). is_prompt prompt row ≡ true → IsSoundPrompt row → IsSoundPrompt (f row)) rows
      → AllByRecursion (λ (row : PromptRow). is_prompt prompt row ≡ true → IsSoundPrompt (f row)) rows
  joined [] all new = tt
  joined (row ∷ rows) all new = (λ is. new.0 is all.0, joined rows all.1 new.1)

  -- a change of the prompt that leaves its row sound
  pub prompts-changed : IsKeeping f → (conns : List ConnRow) (prompts : Prompts) → ((row : PromptRow) → row_at prompt prompts ≡ Some row → IsSoundPrompt row → IsSoundPrompt (f row)) → AreSoundPrompts conns prompts
      → AreSoundPrompts conns (changed prompt f prompts)
  prompts-changed keeps conns prompts says sound =
      let both = at-row prompt (λ row. IsSoundPrompt row → IsSoundPrompt (f row)) prompts.rows sound.kept.rising (λ row found. says row found) in
      record {
        kept = sound-changed prompt f prompts keeps sound.kept;
        each = each-changed prompts.rows sound.each (joined prompts.rows sound.each both);
        owned = owned-changed keeps conns prompts.rows sound.owned;
        agent = sound.agent;
      }

-- ---- how far a prompt has come

keeps-staged : (stage : Stage) → IsStage stage → IsKeeping (λ row. record row { stage = stage })
keeps-staged stage is = record { number = λ row. refl; owner = λ row. refl; stage = λ row was. is }

-- the prompt is at another stage; if it isn't only made, there is something to ask for
pub prompts-staged : (conns : List ConnRow) (prompt : PromptId) (stage : Stage) (prompts : Prompts) → IsStage stage
    → ((row : PromptRow) → row_at prompt prompts ≡ Some row → IsSoundPrompt row → is_made stage ≡ false → HasLeft row.kind) → AreSoundPrompts conns prompts → AreSoundPrompts conns (staged prompt stage prompts)
prompts-staged conns prompt stage prompts is left sound =
    prompts-changed prompt (λ row. record row { stage = stage }) (keeps-staged stage is) conns prompts
    (λ row found was. record { number = was.number; wrong = was.wrong; kind = was.kind; left = left row found was }) sound

-- Prompt, if there is something to ask for
pub prompts-asked : (conns : List ConnRow) (prompt : PromptId) (prompts : Prompts) → ((row : PromptRow) → row_at prompt prompts ≡ Some row → HasLeft row.kind) → AreSoundPrompts conns prompts
    → AreSoundPrompts conns (asked prompt prompts)
prompts-asked conns prompt prompts left sound =
    let next = prompts-staged conns prompt (Asked 1) prompts (omega arith, omega arith) (λ row found was made. left row found) sound in
    let inner : (b : Bool) → AreSoundPrompts conns (cond b (staged prompt (Asked 1) prompts) prompts) = elim [ true ↦ next | false ↦ sound ] in
    let pass : (o : Option PromptRow) → AreSoundPrompts conns (asked_from o prompt prompts) = elim [ None ↦ sound | Some row ↦ inner (is_made row.stage) ] in
    pass (row_at prompt prompts)

-- the prompt is asked in its next round, if there is something to ask for
pub prompts-asked_again : (conns : List ConnRow) (prompt : PromptId) (prompts : Prompts) → next_round (row_at prompt prompts) ≤ last_round
    → ((row : PromptRow) → row_at prompt prompts ≡ Some row → HasLeft row.kind) → AreSoundPrompts conns prompts → AreSoundPrompts conns (asked_again prompt prompts)
prompts-asked_again conns prompt prompts few left sound =
    let pass : (o : Option PromptRow) → 1 ≤ next_round o = elim [ None ↦ omega arith | Some row ↦ omega arith ] in
    prompts-staged conns prompt (Asked (next_round (row_at prompt prompts))) prompts (pass (row_at prompt prompts), few) (λ row found was made. left row found) sound

-- ---- a prompt ends

pub prompts-ended : (conns : List ConnRow) (prompt : PromptId) (prompts : Prompts) → AreSoundPrompts conns prompts → AreSoundPrompts conns (ended prompt prompts)
prompts-ended conns prompt prompts sound = record {
  kept = sound-filter (λ row. not (is_prompt prompt row)) prompts sound.kept;
  each = each-filter IsSoundPrompt _ prompts.rows sound.each;
  owned = each-filter _ _ prompts.rows sound.owned;
  agent = sound.agent;
}

-- an answer in the round in which the prompt is asked
pub prompts-answered : (conns : List ConnRow) (prompt : PromptId) (round : ℕ) (prompts : Prompts) → 1 ≤ round → round ≤ last_round
    → ((row : PromptRow) → row_at prompt prompts ≡ Some row → is_made row.stage ≡ false) → AreSoundPrompts conns prompts → AreSoundPrompts conns (answered prompt round prompts)
prompts-answered conns prompt round prompts some few made sound =
    let pass : (b : Bool) → nat_eq round last_round ≡ b → AreSoundPrompts conns (cond b (ended prompt prompts) (staged prompt (Deriving round) prompts)) =
    elim [
      | true ↦ λ is. prompts-ended conns prompt prompts sound
      | false ↦ λ is.
          let below : round < last_round = grind (arith, nat_tests) in
          prompts-staged conns prompt (Deriving round) prompts (some, below) (λ row found was now. was.left (made row found)) sound
    ] in
    pass (nat_eq round last_round) refl

-- ---- targets

done-each : (left done : List Target) → AllByRecursion IsSoundTarget left → AllByRecursion IsSoundTarget done → AllByRecursion IsSoundTarget (with_first_of left done)
done-each [] done all was = was
done-each (target ∷ left) done all was = each-append IsSoundTarget done (target ∷ []) was (all.0, tt)

rest-each : (left : List Target) → AllByRecursion IsSoundTarget left → AllByRecursion IsSoundTarget (rest_of left)
rest-each [] all = tt
rest-each (target ∷ left) all = all.1

rest-light : (left : List Target) → weight (rest_of left) ≤ weight left
rest-light [] = omega arith
rest-light (target ∷ left) = omega (arith, sum_by-cons weight_of target left)

done-light : (left done : List Target) → weight (with_first_of left done) + weight (rest_of left) ≤ weight done + weight left
done-light [] done = omega arith
done-light (target ∷ left) done = omega (arith, sum_by-cons weight_of target left, sum_by_push weight_of done target)

pub targets-done : (targets : TargetLists) → AreSoundTargets targets → AreSoundTargets (first_done targets)
targets-done targets sound = record {
  done = done-each targets.left targets.done sound.left sound.done;
  left = rest-each targets.left sound.left;
  light = omega (arith, done-light targets.left targets.done, sound.light);
}

pub targets-dropped : (targets : TargetLists) → AreSoundTargets targets → AreSoundTargets (first_dropped targets)
targets-dropped targets sound = record {
  done = sound.done;
  left = rest-each targets.left sound.left;
  light = omega (arith, rest-light targets.left, sound.light);
}

module _ (change : TargetLists → TargetLists) (keeps : (targets : TargetLists) → AreSoundTargets targets → AreSoundTargets (change targets)) where
  pub kind-targeted : (kind : PromptKind) → IsSoundKind kind → IsSoundKind (kind_with change kind)
  kind-targeted (Unlock targets) is = keeps targets is
  kind-targeted (Create label alias salt) is = is
  kind-targeted (Change stem salt) is = is

  -- a change of the prompt's targets, if there is something to ask for after it, or Prompt wasn't called yet
  pub prompts-targeted : (conns : List ConnRow) (prompt : PromptId) (prompts : Prompts)
      → ((row : PromptRow) → row_at prompt prompts ≡ Some row → is_made row.stage ≡ false → HasLeft (kind_with change row.kind)) → AreSoundPrompts conns prompts
      → AreSoundPrompts conns (targeted prompt change prompts)
  prompts-targeted conns prompt prompts left sound =
      prompts-changed prompt (λ row. record row { kind = kind_with change row.kind }) (record { number = λ row. refl; owner = λ row. refl; stage = λ row is. is }) conns prompts
      (λ row found was. record { number = was.number; wrong = was.wrong; kind = kind-targeted row.kind was.kind; left = left row found }) sound

-- ---- wrong answers

pub prompts-wronged : (conns : List ConnRow) (prompt : PromptId) (prompts : Prompts) → AreSoundPrompts conns prompts → AreSoundPrompts conns (wronged prompt prompts)
prompts-wronged conns prompt prompts sound =
    prompts-changed prompt (λ row. record row { wrong = one_more row.wrong }) (record { number = λ row. refl; owner = λ row. refl; stage = λ row is. is }) conns prompts
    (λ row found was. record { number = was.number; wrong = omega arith; kind = was.kind; left = was.left }) sound

pub prompts-cleared : (conns : List ConnRow) (prompt : PromptId) (prompts : Prompts) → AreSoundPrompts conns prompts → AreSoundPrompts conns (cleared prompt prompts)
prompts-cleared conns prompt prompts sound =
    prompts-changed prompt (λ row. record row { wrong = 0 }) (record { number = λ row. refl; owner = λ row. refl; stage = λ row is. is }) conns prompts
    (λ row found was. record { number = was.number; wrong = omega arith; kind = was.kind; left = was.left }) sound

-- ---- the agent

pub prompts-registered : (conns : List ConnRow) (conn : ConnId) (prompts : Prompts) → has conn conns ≡ true → AreSoundPrompts conns prompts → AreSoundPrompts conns (registered conn prompts)
prompts-registered conns conn prompts there sound = record {
  kept = record { first = sound.kept.first; numbers = sound.kept.numbers; given = sound.kept.given; rising = sound.kept.rising; rounds = sound.kept.rounds; few = sound.kept.few; numbered = sound.kept.numbered };
  each = sound.each;
  owned = sound.owned;
  agent = there;
}

-- a prompt for which a key was being derived isn't only made either before or after
made-same : (stage : Stage) → is_made (unanswered stage) ≡ is_made stage
made-same Made = refl
made-same (Asked round) = refl
made-same (Deriving round) = refl

unanswered-sound : (row : PromptRow) → IsSoundPrompt row → IsSoundPrompt (unanswered_row row)
unanswered-sound row was = record { number = was.number; wrong = was.wrong; kind = was.kind; left = λ made. was.left (sym (made-same row.stage) ∙ made) }

pub prompts-unregistered : (conns : List ConnRow) (prompts : Prompts) → AreSoundPrompts conns prompts → AreSoundPrompts conns (unregistered prompts)
prompts-unregistered conns prompts sound =
    let mapped = sound-map unanswered_row keeps-unanswered prompts sound.kept in
    record {
      kept = record { first = mapped.first; numbers = mapped.numbers; given = mapped.given; rising = mapped.rising; rounds = mapped.rounds; few = mapped.few; numbered = mapped.numbered };
      each = each-mapped unanswered_row IsSoundPrompt prompts.rows (each-weaker IsSoundPrompt _ unanswered-sound prompts.rows sound.each);
      owned = each-mapped unanswered_row (λ (row : PromptRow). IsTrue (has row.owner conns)) prompts.rows sound.owned;
      agent = tt;
    }

-- ---- a connection is gone

-- what isn't true is false
not-true : (b : Bool) → not b ≡ true → b ≡ false
not-true true is = sym is
not-true false is = refl

-- the prompts of the others, if another connection is the agent or there is none
prompts-others : (conn : ConnId) (conns : List ConnRow) (prompts : Prompts) → is_agent conn prompts ≡ false → AreSoundPrompts conns prompts
    → AreSoundPrompts (connections.without conn conns) (without conn prompts)
prompts-others conn conns prompts other sound =
    let still : (o : Option ConnId) → is_conn conn o ≡ false → IfSome o (λ agent. IsTrue (has agent conns)) → IfSome o (λ agent. IsTrue (has agent (connections.without conn conns))) =
    elim [ None ↦ λ apart is. tt | Some agent ↦ λ apart is. has-without agent conn conns apart is ] in
    record {
      kept = sound-filter (λ row. not (is_of conn row)) prompts sound.kept;
      each = each-filter IsSoundPrompt _ prompts.rows sound.each;
      owned = each-passing _ _ (λ (row : PromptRow). not (is_of conn row)) (λ row passes there. has-without row.owner conn conns (not-true (is_of conn row) passes) there) prompts.rows sound.owned;
      agent = still prompts.agent other sound.agent;
    }

-- the prompts of the others with no agent
prompts-alone : (conn : ConnId) (conns : List ConnRow) (prompts : Prompts) → AreSoundPrompts conns prompts
    → AreSoundPrompts (connections.without conn conns) (record (without conn prompts) { agent = None })
prompts-alone conn conns prompts sound =
    prompts-others conn conns (record prompts { agent = None }) refl (record {
      kept = record { first = sound.kept.first; numbers = sound.kept.numbers; given = sound.kept.given; rising = sound.kept.rising; rounds = sound.kept.rounds; few = sound.kept.few; numbered = sound.kept.numbered };
      each = sound.each;
      owned = sound.owned;
      agent = tt;
    })

pub prompts-gone : (conn : ConnId) (conns : List ConnRow) (prompts : Prompts) → AreSoundPrompts conns prompts → AreSoundPrompts (connections.without conn conns) (abandoned conn prompts)
prompts-gone conn conns prompts sound =
    let pass : (b : Bool) → is_agent conn prompts ≡ b → AreSoundPrompts (connections.without conn conns) (cond b (unregistered (without conn prompts)) (without conn prompts)) =
    elim [
      | true ↦ λ is. prompts-unregistered (connections.without conn conns) (record (without conn prompts) { agent = None }) (prompts-alone conn conns prompts sound)
      | false ↦ λ is. prompts-others conn conns prompts is sound
    ] in
    pass (is_agent conn prompts) refl
