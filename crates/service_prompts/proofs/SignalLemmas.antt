-- The signals of sound prompts have a spelling, and can wait for the connections that they go to.
use Rattle.std.proofs.Common.{◌≡◌, ℕ, ◌+◌, ◌*◌, ◌^◌, ◌<◌, ◌≤◌, Bool, true, false, cond, nat_le, IsTrue, IfSome, List, [], ◌∷◌, ◌++◌, length, Option, Some, None, refl, ap, subst, sym, arith, length-append}
use Rattle.std.specs.Int.{w32}
use Rattle.std.specs.Char.{is_ascii_alphanumeric}
use Rattle.std.specs.List.{AllByRecursion, cons_option, filter_map}
use Rattle.std.specs.Option.{option_and_then, option_map, option_map_or}
use Rattle.std.proofs.lemmas.List.Elements.{All-from_recursion}
use Rattle.std.proofs.lemmas.List.Sums.{sum_by-cons}
use Rattle.std.proofs.lemmas.Option.{none-some}
use Rattle.kr_base.specs.Attributes.{value_at}
use Rattle.kr_base.specs.Stem.{IsStem}
use Rattle.kr_base.specs.Text.{IsText}
use Rattle.kr_base.specs.declared.ids.ConnId.{ConnId}
use Rattle.kr_base.specs.declared.ids.PromptId.{PromptId}
use Rattle.kr_names.specs.Escape.{escape, escaped}
use Rattle.kr_names.specs.Path.{collections}
use Rattle.kr_names.specs.declared.object_name.ObjectName.TheVariants as name
use Rattle.kr_names.proofs.TextLemmas.{IsPlain, IsText-plain}
use Rattle.dbus_types.specs.Paths.{is_object_path}
use Rattle.dbus_types.specs.declared.endian.Endian.TheVariants.{Little}
use Rattle.dbus_marshal.specs.Spelling.{all_spelled, first_at}
use Rattle.dbus_marshal.specs.Wire.{behind, number_bytes, padding, start_of, zeros}
use Rattle.dbus_marshal.proofs.WritingLemmas.{zeros_long}
use Rattle.service_tables.specs.collection_table.specs.Rows.{CollectionRow, Rows}
use Rattle.prompt_state.specs.Prompts.{IsStage, ask_at, ask_in, ask_of, ask_to, asks, asks_of, ended_row, is_prompt, row_at}
use Rattle.prompt_state.specs.Targets.{first_of}
use Rattle.prompt_state.specs.declared.row.Ask.{Ask}
use Rattle.prompt_state.specs.declared.row.Ended.{Ended}
use Rattle.prompt_state.specs.declared.row.PromptKind.{PromptKind}
use Rattle.prompt_state.specs.declared.row.PromptKind.TheVariants.{Unlock, Create, Change}
use Rattle.prompt_state.specs.declared.row.PromptRow.{PromptRow}
use Rattle.prompt_state.specs.declared.row.Prompts.{Prompts}
use Rattle.prompt_state.specs.declared.row.Stage.{Stage}
use Rattle.prompt_state.specs.declared.row.Stage.TheVariants.{Made, Asked, Deriving}
use Rattle.prompt_state.specs.declared.targets.Target.{Target}
use Rattle.service_tables.specs.secret_calls.specs.Outs.{ArePaths, IsResult, IsSignal, most_label, path_values, paths_value, shown_label, spelled_body}
use Rattle.service_tables.specs.secret_calls.specs.declared.out.Body.TheVariants as body
use Rattle.service_tables.specs.secret_calls.specs.declared.signal.Signal.TheVariants as signal
use Rattle.service_tables.specs.secret_calls.proofs.LengthLemmas.{AllAtMost, AtMost, end-most, more-most, path-most}
use Rattle.service_tables.specs.secret_calls.proofs.SizeLemmas.{ask-fits, ask-waits, completed-fits, completed-waits, label-short, result_body}
use Rattle.service_tables.specs.Connections.{size_of, spread}
use Rattle.service_tables.specs.Limits.{most_weight}
use Rattle.service_tables.specs.TablesReading.{label_of}
use Rattle.service_tables.specs.Sound.{AreSoundCollections, AreSoundPrompts, CanWait, IsSoundCollection, IsSoundKind, IsSoundPrompt, IsSoundTarget}
use Rattle.service_tables.specs.Targets.{weight, weight_of}
use Rattle.service_tables.specs.signal_fanout.specs.declared.rows.ConnRow.{ConnRow}
use Rattle.service_tables.specs.signal_fanout.specs.declared.rows.Delivery.{Delivery}
use Rattle.service_tables.specs.Sent.{Sent}
use Rattle.service_tables.proofs.CollectionLemmas.{at-stem, path-of}
use Rattle.service_tables.proofs.EachLemmas.{each-found}
use Rattle.service_tables.proofs.TypedLemmas.{text-known}
use Rattle.service_prompts.specs.Prompting.{ask_sent, ask_signal, ask_signal_in, asks_sent, completed_sent, completed_signal, completion_of, created_path, label_asked, purpose_of}
use Rattle.service_prompts.specs.Unlocking.{given_of}

-- ---- labels

empty-text : IsText []
empty-text = IsText-plain [] (All-from_recursion IsPlain [] tt)

shown-text : (label : List ℕ) → IsText label → IsText (shown_label label)
shown-text label is =
    let pass : (b : Bool) → IsText (cond b label []) = elim [ true ↦ is | false ↦ empty-text ] in
    pass (nat_le (length label) most_label)

-- the label of a collection
pub label-text : (stem : List ℕ) (rows : Rows) → AreSoundCollections rows → IsText (label_of stem rows)
label-text stem rows sound =
    let pass : (o : Option CollectionRow) → value_at stem rows ≡ o → IsText (option_map_or (λ (row : CollectionRow). row.clear.name) o []) =
    elim [
      | None ↦ λ is. empty-text
      | Some row ↦ λ is. (at-stem IsSoundCollection stem row rows sound.each is).shown.label
    ] in
    pass (value_at stem rows) refl

-- the label of the collection that a password is for
pub asked-text : (rows : Rows) (kind : PromptKind) → AreSoundCollections rows → IsSoundKind kind → IsText (label_asked rows kind)
asked-text rows (Unlock targets) sound is =
    let pass : (o : Option Target) → IsText (option_map_or (λ (target : Target). label_of target.stem rows) o []) =
    elim [ None ↦ empty-text | Some target ↦ label-text target.stem rows sound ] in
    pass (first_of targets.left)
asked-text rows (Create label alias salt) sound is = text-known label is.label
asked-text rows (Change stem salt) sound is = label-text stem rows sound

-- ---- Ask

-- the numbers in Ask have their types
pub record IsSoundAsk (ask : Ask) : Type 0 where
  pub number : ask.prompt.0 < 2 ^ 64
  pub round : ask.round < 2 ^ 64
  pub wrong : ask.wrong < 2 ^ 32

-- Ask can wait for the agent
pub ask-can : (rows : Rows) (kind : PromptKind) (ask : Ask) → AreSoundCollections rows → IsSoundKind kind → IsSoundAsk ask → CanWait (ask_signal rows kind ask)
unfolding size_of
ask-can rows kind ask sound is numbers =
    let label = label_asked rows kind in
    let typed : IsSignal (signal.Ask ask.prompt ask.round (purpose_of kind) (shown_label label) ask.wrong) = (numbers.number, numbers.round, shown-text label (asked-text rows kind sound is), numbers.wrong) in
    record {
      spelled = ask-fits ask.prompt ask.round (purpose_of kind) (shown_label label) ask.wrong typed (label-short label);
      small = ask-waits ask.prompt ask.round (purpose_of kind) (shown_label label) ask.wrong 1 numbers.number (label-short label);
    }

-- what is sent for a sound row has numbers of their types
stage-ask : (stage : Stage) (agent : ConnId) (row : PromptRow) (ask : Ask) → IsSoundPrompt row → IsStage stage → ask_in stage agent row ≡ Some ask → IsSoundAsk ask
stage-ask Made agent row ask sound stage is = absurd (none-some ask is)
stage-ask (Asked round) agent row ask sound stage is =
    let made : Ask = record { agent = agent; prompt = row.prompt; round = round; wrong = row.wrong } in
    let same : made ≡ ask = cc in
    subst IsSoundAsk same (record { number = sound.number; round = omega (arith, stage.1); wrong = sound.wrong })
stage-ask (Deriving round) agent row ask sound stage is = absurd (none-some ask is)

-- a row that is found is one of the rows
pub found-row : (P : PromptRow → Type 0) (prompt : PromptId) (prompts : Prompts) (row : PromptRow) → AllByRecursion P prompts.rows → row_at prompt prompts ≡ Some row → P row
found-row P prompt prompts row all is = each-found (λ (row : PromptRow). row) P (is_prompt prompt) prompts.rows row all (ap (option_map (λ (row : PromptRow). row)) is)

signal-can : (conns : List ConnRow) (prompts : Prompts) (rows : Rows) (ask : Ask) (more : List Sent) → AreSoundPrompts conns prompts → AreSoundCollections rows → IsSoundAsk ask → AllByRecursion CanWait more
    → AllByRecursion CanWait (cons_option (ask_signal_in rows prompts ask) more)
signal-can conns prompts rows ask more sound known numbers all =
    let pass : (o : Option PromptRow) → row_at ask.prompt prompts ≡ o → AllByRecursion CanWait (cons_option (option_map (λ (row : PromptRow). ask_signal rows row.kind ask) o) more) =
    elim [
      | None ↦ λ is. all
      | Some row ↦ λ is. (ask-can rows row.kind ask known (found-row IsSoundPrompt ask.prompt prompts row sound.each is).kind numbers, all)
    ] in
    pass (row_at ask.prompt prompts) refl

at-ask : (conns : List ConnRow) (prompts : Prompts) (prompt : PromptId) (ask : Ask) → AreSoundPrompts conns prompts → ask_at prompt prompts ≡ Some ask → IsSoundAsk ask
at-ask conns prompts prompt ask sound is =
    let pass : (agent : Option ConnId) (o : Option PromptRow) → row_at prompt prompts ≡ o → ask_of agent o ≡ Some ask → IsSoundAsk ask =
    elim [
      | None ↦ λ o at has. absurd (none-some ask has)
      | Some agent ↦ elim [
        | None ↦ λ at has. absurd (none-some ask has)
        | Some row ↦ λ at has.
            stage-ask row.stage agent row ask (found-row IsSoundPrompt prompt prompts row sound.each at)
            (found-row (λ (row : PromptRow). IsStage row.stage) prompt prompts row sound.kept.rounds at) has
      ]
    ] in
    pass prompts.agent (row_at prompt prompts) refl is

-- what is sent when a prompt is asked can wait
pub ask_sent-can : (conns : List ConnRow) (prompts : Prompts) (rows : Rows) (prompt : PromptId) → AreSoundPrompts conns prompts → AreSoundCollections rows
    → AllByRecursion CanWait (ask_sent prompt prompts rows)
ask_sent-can conns prompts rows prompt sound known =
    let pass : (o : Option Ask) → ask_at prompt prompts ≡ o → AllByRecursion CanWait (cons_option (option_and_then (ask_signal_in rows prompts) o) []) =
    elim [
      | None ↦ λ is. tt
      | Some ask ↦ λ is. signal-can conns prompts rows ask [] sound known (at-ask conns prompts prompt ask sound is) tt
    ] in
    pass (ask_at prompt prompts) refl

rows-asks : (agent : ConnId) (rows : List PromptRow) → AllByRecursion IsSoundPrompt rows → AllByRecursion (λ (row : PromptRow). IsStage row.stage) rows → AllByRecursion IsSoundAsk (filter_map (ask_to agent) rows)
rows-asks agent [] all rounds = tt
rows-asks agent (row ∷ rows) all rounds =
    let rest = rows-asks agent rows all.1 rounds.1 in
    let pass : (o : Option Ask) → ask_to agent row ≡ o → AllByRecursion IsSoundAsk (cons_option o (filter_map (ask_to agent) rows)) =
    elim [
      | None ↦ λ is. rest
      | Some ask ↦ λ is. (stage-ask row.stage agent row ask all.0 rounds.0 is, rest)
    ] in
    pass (ask_to agent row) refl

all-asks : (conns : List ConnRow) (prompts : Prompts) → AreSoundPrompts conns prompts → AllByRecursion IsSoundAsk (asks prompts)
all-asks conns prompts sound =
    let pass : (agent : Option ConnId) → AllByRecursion IsSoundAsk (asks_of agent prompts.rows) =
    elim [ None ↦ tt | Some agent ↦ rows-asks agent prompts.rows sound.each sound.kept.rounds ] in
    pass prompts.agent

each-can : (conns : List ConnRow) (prompts : Prompts) (rows : Rows) (these : List Ask) → AreSoundPrompts conns prompts → AreSoundCollections rows → AllByRecursion IsSoundAsk these
    → AllByRecursion CanWait (filter_map (ask_signal_in rows prompts) these)
each-can conns prompts rows [] sound known all = tt
each-can conns prompts rows (ask ∷ these) sound known all =
    signal-can conns prompts rows ask (filter_map (ask_signal_in rows prompts) these) sound known all.0 (each-can conns prompts rows these sound known all.1)

-- what is sent when every prompt is asked again can wait
pub asks_sent-can : (conns : List ConnRow) (prompts : Prompts) (rows : Rows) → AreSoundPrompts conns prompts → AreSoundCollections rows → AllByRecursion CanWait (asks_sent prompts rows)
asks_sent-can conns prompts rows sound known = each-can conns prompts rows (asks prompts) sound known (all-asks conns prompts sound)

-- ---- Completed

-- the paths of targets take no more bytes than these weigh
given-most : (targets : List Target) → AllAtMost (weight targets) (path_values (given_of targets))
given-most [] = end-most
given-most (target ∷ targets) =
    subst (λ n. AllAtMost n (path_values (given_of (target ∷ targets)))) (sym (sum_by-cons weight_of target targets)) (more-most (path-most target.given) (given-most targets))

-- a list of paths
list-most : {most : ℕ} (paths : List (List ℕ)) → AllAtMost most (path_values paths) → AtMost (10 + most) (paths_value paths)
unfolding number_bytes
list-most {most} paths elements = record {
  few = λ place. (
      let first = behind (start_of 4 place) 4 in
      let E = all_spelled Little (path_values paths) (first_at 4 place) in
      let N = number_bytes Little w32 (length E) in
      let Z = zeros (padding 4 place) in
      let Y = zeros (padding 4 first) in
      omega (arith, zeros_long (padding 4 place), zeros_long (padding 4 first), elements.few (first_at 4 place), length-append Z (N ++ (Y ++ E)), length-append N (Y ++ E), length-append Y E)
      );
}

list-short : (targets : List Target) → length (spelled_body (body.Objects (given_of targets))) ≤ weight targets + 10
list-short targets = let sum = more-most (list-most (given_of targets) (given-most targets)) end-most in omega (arith, sum.few 0)

object-short : (path : List ℕ) → length (spelled_body (body.Object path)) ≤ length path + 8
object-short path = let sum = more-most (path-most path) end-most in omega (arith, sum.few 0)

escape-short : (byte : ℕ) → length (escape byte) ≤ 3
escape-short byte =
    let pass : (b : Bool) (odd : List ℕ) → length odd ≤ 3 → length (cond b (byte ∷ []) odd) ≤ 3 = elim [ true ↦ λ odd few. omega arith | false ↦ λ odd few. few ] in
    pass (is_ascii_alphanumeric byte) _ (omega arith)

pub escaped-short : (stem : List ℕ) → length (escaped stem) ≤ 3 * length stem
escaped-short [] = omega arith
escaped-short (byte ∷ stem) = omega (arith, escape-short byte, escaped-short stem, length-append (escape byte) (escaped stem))

pub created-short : (created : Option (List ℕ)) → IfSome created IsStem → length (created_path created) ≤ 1000
unfolding collections
created-short None is = omega arith
created-short (Some stem) is = omega (arith, length-append collections (escaped stem), escaped-short stem, is.fits)

created-object : (created : Option (List ℕ)) → IfSome created IsStem → IsTrue (is_object_path (created_path created))
created-object None is = refl
created-object (Some stem) is = path-of (name.Collection stem) is

given-paths : (targets : List Target) → AllByRecursion IsSoundTarget targets → ArePaths (given_of targets)
given-paths [] all = tt
given-paths (target ∷ targets) all = (all.0.given, given-paths targets all.1)

-- what a sound prompt completes with has its types, and is short
result-typed : (kind : PromptKind) (created : Option (List ℕ)) → IsSoundKind kind → IfSome created IsStem → IsResult (completion_of kind created)
result-typed (Unlock targets) created is stem = given-paths targets.done is.done
result-typed (Create label alias salt) created is stem = created-object created stem
result-typed (Change name salt) created is stem = created-object created stem

result-short : (kind : PromptKind) (created : Option (List ℕ)) → IsSoundKind kind → IfSome created IsStem → length (spelled_body (result_body (completion_of kind created))) ≤ most_weight + 10
result-short (Unlock targets) created is stem = omega (arith, list-short targets.done, is.light)
result-short (Create label alias salt) created is stem = omega (arith, object-short (created_path created), created-short created stem)
result-short (Change name salt) created is stem = omega (arith, object-short (created_path created), created-short created stem)

-- Completed can wait for the owner
pub completed-can : (dismissed : Bool) (created : Option (List ℕ)) (ended : Ended) → ended.prompt.0 < 2 ^ 64 → IsSoundKind ended.kind → IfSome created IsStem → CanWait (completed_signal dismissed created ended)
unfolding size_of
completed-can dismissed created ended number is stem =
    let result = completion_of ended.kind created in
    let short = result-short ended.kind created is stem in
    record {
      spelled = completed-fits ended.prompt dismissed result (number, result-typed ended.kind created is stem) (omega (arith, short));
      small = completed-waits ended.prompt dismissed result 1 number (omega (arith, short));
    }

-- what is sent when a prompt ends can wait
pub completed_sent-can : (conns : List ConnRow) (prompts : Prompts) (prompt : PromptId) (dismissed : Bool) (created : Option (List ℕ)) → AreSoundPrompts conns prompts → IfSome created IsStem
    → AllByRecursion CanWait (completed_sent prompt dismissed created prompts)
completed_sent-can conns prompts prompt dismissed created sound stem =
    let pass : (o : Option PromptRow) → row_at prompt prompts ≡ o
    → AllByRecursion CanWait (cons_option (option_map (λ (row : PromptRow). completed_signal dismissed created (ended_row row)) o) []) =
    elim [
      | None ↦ λ is. tt
      | Some row ↦ λ is.
          let found = found-row IsSoundPrompt prompt prompts row sound.each is in
          (completed-can dismissed created (ended_row row) found.number found.kind stem, tt)
    ] in
    pass (row_at prompt prompts) refl

-- ---- deliveries

-- the delivery of Ask to the agent, if the prompt is there
abbrev pub ask_delivery : Rows → Prompts → Ask → Option Delivery
ask_delivery collections prompts ask = option_map (λ (sent : Sent). record { to = ask.agent; out = sent.out }) (ask_signal_in collections prompts ask)

-- what is sent when these are asked goes to the agent, whichever connections are there
pub spread-asks : (conns : List ConnRow) (rows : Rows) (prompts : Prompts) (these : List Ask)
    → filter_map (ask_delivery rows prompts) these ≡ spread conns (filter_map (ask_signal_in rows prompts) these)
spread-asks conns rows prompts [] = refl
spread-asks conns rows prompts (ask ∷ these) =
    let rest = spread-asks conns rows prompts these in
    let pass : (o : Option PromptRow)
    → cons_option (option_map (λ (sent : Sent). record { to = ask.agent; out = sent.out }) (option_map (λ (row : PromptRow). ask_signal rows row.kind ask) o)) (filter_map (ask_delivery rows prompts) these)
    ≡ spread conns (cons_option (option_map (λ (row : PromptRow). ask_signal rows row.kind ask) o) (filter_map (ask_signal_in rows prompts) these)) =
    elim [
      | None ↦ rest
      | Some row ↦ ap (λ (ds : List Delivery). record { to = ask.agent; out = (ask_signal rows row.kind ask).out } ∷ ds) rest
    ] in
    pass (row_at ask.prompt prompts)
