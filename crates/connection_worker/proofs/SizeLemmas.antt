-- How long the signals of prompts are, which go to one connection alone.
use Rattle.std.proofs.Common.{ℕ, ◌+◌, ◌*◌, ◌%◌, ◌^◌, ◌<◌, ◌≤◌, Bool, List, [], ◌∷◌, ◌++◌, length, Option, Some, None, IfSome, codes, sym, subst, arith, length-append}
use Rattle.std.specs.Int.{w32}
use Rattle.std.specs.List.{AllByRecursion, cons_option, filter_map}
use Rattle.std.specs.Option.{option_map}
use Rattle.std.proofs.lemmas.List.Sums.{sum_by-cons}
use Rattle.kr_base.specs.declared.ids.ConnId.{ConnId}
use Rattle.kr_base.specs.Stem.{IsStem}
use Rattle.kr_base.specs.declared.ids.PromptId.{PromptId}
use Rattle.dbus_types.specs.declared.endian.Endian.TheVariants.{Little}
use Rattle.dbus_framing.specs.Headers.{field_parts}
use Rattle.dbus_marshal.specs.Putting.{padded}
use Rattle.dbus_marshal.specs.Spelling.{all_spelled, first_at}
use Rattle.dbus_marshal.specs.Wire.{behind, number_bytes, padding, start_of, zeros}
use Rattle.dbus_marshal.proofs.WritingLemmas.{zeros_long}
use Rattle.dbus_sending.specs.Sent as sending
use Rattle.service_desk.specs.collection_table.specs.Rows.{Rows}
use Rattle.prompt_state.specs.Prompts.{ask_in, ask_to, asks_of, row_at}
use Rattle.prompt_state.specs.declared.row.Ask.{Ask}
use Rattle.prompt_state.specs.declared.row.Ended.{Ended}
use Rattle.prompt_state.specs.declared.row.PromptKind.{PromptKind}
use Rattle.prompt_state.specs.declared.row.PromptKind.TheVariants.{Unlock, Create, Change}
use Rattle.prompt_state.specs.declared.row.PromptRow.{PromptRow}
use Rattle.prompt_state.specs.declared.row.Prompts.{Prompts}
use Rattle.prompt_state.specs.declared.row.Stage.{Stage}
use Rattle.prompt_state.specs.declared.row.Stage.TheVariants.{Made, Asked, Deriving}
use Rattle.prompt_state.specs.declared.targets.Target.{Target}
use Rattle.service_desk.specs.secret_calls.specs.Outs.{kind_text, path_values, paths_value, prompt_path, shown_label, signal_values, sent, spelled_body}
use Rattle.service_desk.specs.secret_calls.specs.declared.out.Out.{Out}
use Rattle.service_desk.specs.secret_calls.specs.declared.out.Out.TheVariants as out
use Rattle.service_desk.specs.secret_calls.specs.declared.signal.AskKind.{AskKind}
use Rattle.service_desk.specs.secret_calls.specs.declared.signal.AskKind.TheVariants as kind
use Rattle.service_desk.specs.secret_calls.specs.declared.signal.Completion.{Completion}
use Rattle.service_desk.specs.secret_calls.specs.declared.signal.Signal.{Signal}
use Rattle.service_desk.specs.secret_calls.specs.declared.signal.Signal.TheVariants as signal
use Rattle.service_desk.specs.secret_calls.proofs.LengthLemmas.{AllAtMost, AtMost, array-most, byte-most, end-most, long-most, more-most, path-most, text-most, word-most}
use Rattle.service_desk.specs.secret_calls.proofs.SizeLemmas.{completed-values, fields-most, label-short, prompt-short, result_body}
use Rattle.service_desk.specs.service_tables.specs.Connections.{size_of}
use Rattle.service_desk.specs.service_tables.specs.Limits.{most_weight}
use Rattle.service_desk.specs.service_tables.specs.Targets.{weight, weight_of}
use Rattle.service_desk.specs.service_tables.specs.Sent.{Everyone, One, Recipient, Sent}
use Rattle.service_desk.specs.service_prompts.specs.Prompting.{ask_signal, ask_signal_in, asks_sent, completed_signal, completion_of, created_path, label_asked, purpose_of}
use Rattle.service_desk.specs.service_prompts.specs.Unlocking.{given_of}
use Rattle.service_desk.specs.service_prompts.proofs.SignalLemmas.{created-short}

-- how many bytes an output has that goes to one connection alone
abbrev pub size_to : Recipient → Out → ℕ
size_to (One conn) out = size_of out
size_to Everyone out = 0

-- how many bytes have those among these that go to one connection alone
abbrev pub size_alone : List Sent → ℕ
size_alone [] = 0
size_alone (sent ∷ more) = size_to sent.to sent.out + size_alone more

-- ---- one signal

-- what comes before the body of a signal
abbrev head : Signal → List ℕ
head signal = padded 8 (all_spelled Little (sending.header_of (sent (out.Signal signal) 1)) 0)

-- a header has at most 32 bytes beside its fields
header-most : {most : ℕ} (message : sending.Sent) → AllAtMost most (sending.fields_of message) → (place : ℕ) → length (all_spelled Little (sending.header_of message) place) ≤ most + 32
header-most message fields place =
    let sum = more-most (byte-most 108) (more-most (byte-most message.header.kind) (more-most (byte-most message.header.flags) (more-most (byte-most 1)
    (more-most (word-most (length (all_spelled Little message.body 0))) (more-most (word-most message.header.serial) (more-most (array-most {ts = field_parts} fields) end-most)))))) in
    omega (arith, sum.few place)

ask-head : (prompt : PromptId) (round : ℕ) (kind : AskKind) (label : List ℕ) (wrong : ℕ) → length (head (signal.Ask prompt round kind label wrong)) ≤ 170
ask-head prompt round kind label wrong =
    let message = sent (out.Signal (signal.Ask prompt round kind label wrong)) 1 in
    let H = all_spelled Little (sending.header_of message) 0 in
    let fields = fields-most (codes "/org/freedesktop/secrets/agent") (codes "org.keyringd.Agent1") (codes "Ask") 111 (codes "tssu") in
    omega (arith, header-most message fields 0, length-append H (zeros (padding 8 (length H % 8))), zeros_long (padding 8 (length H % 8)))

kind-short : (kind : AskKind) → length (kind_text kind) ≤ 6
kind-short kind.Unlock = omega arith
kind-short kind.Create = omega arith
kind-short kind.Change = omega arith

ask-values : (prompt : PromptId) (round : ℕ) (kind : AskKind) (label : List ℕ) (wrong : ℕ) → prompt.0 < 2 ^ 64
    → length (all_spelled Little (signal_values (signal.Ask prompt round kind label wrong)) 0) ≤ length label + 105
ask-values prompt round kind label wrong fits =
    let sum = more-most (path-most (prompt_path prompt.0)) (more-most (long-most round) (more-most (text-most (kind_text kind)) (more-most (text-most label) (more-most (word-most wrong) end-most)))) in
    omega (arith, prompt-short prompt fits, kind-short kind, sum.few 0)

-- Ask
ask-size : (rows : Rows) (kind : PromptKind) (ask : Ask) → ask.prompt.0 < 2 ^ 64 → size_of (ask_signal rows kind ask).out ≤ 1299
unfolding size_of
ask-size rows kind ask fits =
    let label = shown_label (label_asked rows kind) in
    let one = signal.Ask ask.prompt ask.round (purpose_of kind) label ask.wrong in
    omega (
      arith,
      length-append (head one) (all_spelled Little (signal_values one) 0),
      ask-head ask.prompt ask.round (purpose_of kind) label ask.wrong,
      ask-values ask.prompt ask.round (purpose_of kind) label ask.wrong fits,
      label-short (label_asked rows kind),
    )

completed-head : (prompt : PromptId) (dismissed : Bool) (result : Completion) → prompt.0 < 2 ^ 64 → length (head (signal.Completed prompt dismissed result)) ≤ 210
completed-head prompt dismissed result fits =
    let message = sent (out.Signal (signal.Completed prompt dismissed result)) 1 in
    let H = all_spelled Little (sending.header_of message) 0 in
    let fields = fields-most (prompt_path prompt.0) (codes "org.freedesktop.Secret.Prompt") (codes "Completed") 98 (codes "v") in
    omega (arith, prompt-short prompt fits, header-most message fields 0, length-append H (zeros (padding 8 (length H % 8))), zeros_long (padding 8 (length H % 8)))

-- the paths of targets take no more bytes than these weigh
given-most : (targets : List Target) → AllAtMost (weight targets) (path_values (given_of targets))
given-most [] = end-most
given-most (target ∷ targets) =
    subst (λ n. AllAtMost n (path_values (given_of (target ∷ targets)))) (sym (sum_by-cons weight_of target targets)) (more-most (path-most target.given) (given-most targets))

list-most : {most : ℕ} (paths : List (List ℕ)) → AllAtMost most (path_values paths) → AtMost (10 + most) (paths_value paths)
unfolding number_bytes
list-most {most} paths elements = record {
  few = λ place. (
      let first = behind (start_of 4 place) 4 in
      let E = all_spelled Little (path_values paths) (first_at 4 place) in
      let N = number_bytes Little w32 (length E) in
      let Z = zeros (padding 4 place) in
      let Y = zeros (padding 4 first) in
      omega (arith, zeros_long (padding 4 place), zeros_long (padding 4 first), elements.few (first_at 4 place), length-append Z (N ++ (Y ++ E)), length-append N (Y ++ E), length-append Y E)
      );
}

-- what targets weigh that are done: those of a prompt that unlocks
abbrev pub done_weight : PromptKind → ℕ
done_weight (Unlock targets) = weight targets.done
done_weight (Create label alias salt) = 0
done_weight (Change stem salt) = 0

-- what a prompt completes with
result-size : (kind : PromptKind) (created : Option (List ℕ)) → done_weight kind ≤ most_weight → IfSome created IsStem → length (spelled_body (result_body (completion_of kind created))) ≤ 8388618
unfolding number_bytes
result-size (Unlock targets) created light stem = let sum = more-most (list-most (given_of targets.done) (given-most targets.done)) end-most in omega (arith, sum.few 0, light)
result-size (Create label alias salt) created light stem = let sum = more-most (path-most (created_path created)) end-most in omega (arith, sum.few 0, created-short created stem)
result-size (Change name salt) created light stem = let sum = more-most (path-most (created_path created)) end-most in omega (arith, sum.few 0, created-short created stem)

-- Completed
pub completed-size : (dismissed : Bool) (created : Option (List ℕ)) (ended : Ended) → ended.prompt.0 < 2 ^ 64 → done_weight ended.kind ≤ most_weight → IfSome created IsStem
    → size_of (completed_signal dismissed created ended).out ≤ 8388836
unfolding size_of
completed-size dismissed created ended fits light stem =
    let result = completion_of ended.kind created in
    let one = signal.Completed ended.prompt dismissed result in
    omega (
      arith,
      length-append (head one) (all_spelled Little (signal_values one) 0),
      completed-head ended.prompt dismissed result fits,
      completed-values ended.prompt dismissed result,
      result-size ended.kind created light stem,
    )

-- ---- what is sent

-- the numbers of prompts have their type
abbrev pub AreNumbered : List PromptRow → Type 0
AreNumbered rows = AllByRecursion (λ (row : PromptRow). row.prompt.0 < 2 ^ 64) rows

-- Ask for a prompt, if it is there, and then others
signal-size : (collections : Rows) (prompts : Prompts) (ask : Ask) (more : List Sent) (most : ℕ) → ask.prompt.0 < 2 ^ 64 → size_alone more ≤ most
    → size_alone (cons_option (ask_signal_in collections prompts ask) more) ≤ 1299 + most
signal-size collections prompts ask more most fits few =
    let pass : (o : Option PromptRow) → size_alone (cons_option (option_map (λ (row : PromptRow). ask_signal collections row.kind ask) o) more) ≤ 1299 + most =
    elim [ None ↦ omega (arith, few) | Some row ↦ omega (arith, few, ask-size collections row.kind ask fits) ] in
    pass (row_at ask.prompt prompts)

stage-size : (collections : Rows) (prompts : Prompts) (agent : ConnId) (row : PromptRow) (rest : List Ask) (most : ℕ) → row.prompt.0 < 2 ^ 64 → size_alone (filter_map (ask_signal_in collections prompts) rest) ≤ most
    → (stage : Stage) → size_alone (filter_map (ask_signal_in collections prompts) (cons_option (ask_in stage agent row) rest)) ≤ 1299 + most
stage-size collections prompts agent row rest most fits few Made = omega (arith, few)
stage-size collections prompts agent row rest most fits few (Asked round) =
    signal-size collections prompts (record { agent = agent; prompt = row.prompt; round = round; wrong = row.wrong }) (filter_map (ask_signal_in collections prompts) rest) most fits few
stage-size collections prompts agent row rest most fits few (Deriving round) = omega (arith, few)

rows-size : (collections : Rows) (prompts : Prompts) (agent : ConnId) (rows : List PromptRow) → AreNumbered rows
    → size_alone (filter_map (ask_signal_in collections prompts) (filter_map (ask_to agent) rows)) ≤ 1299 * length rows
rows-size collections prompts agent [] fits = omega arith
rows-size collections prompts agent (row ∷ rows) fits =
    let few = stage-size collections prompts agent row (filter_map (ask_to agent) rows) (1299 * length rows) fits.0 (rows-size collections prompts agent rows fits.1) row.stage in
    omega (arith, few)

-- Ask for every prompt
pub asks-size : (prompts : Prompts) (collections : Rows) → AreNumbered prompts.rows → size_alone (asks_sent prompts collections) ≤ 1299 * length prompts.rows
asks-size prompts collections fits =
    let pass : (agent : Option ConnId) → size_alone (filter_map (ask_signal_in collections prompts) (asks_of agent prompts.rows)) ≤ 1299 * length prompts.rows =
    elim [ None ↦ omega arith | Some agent ↦ rows-size collections prompts agent prompts.rows fits ] in
    pass prompts.agent

-- one Ask, and one Completed
pub one-ask : (collections : Rows) (kind : PromptKind) (ask : Ask) → ask.prompt.0 < 2 ^ 64 → size_alone (ask_signal collections kind ask ∷ []) ≤ 1299
one-ask collections kind ask fits = omega (arith, ask-size collections kind ask fits)

-- Ask for a prompt, if it is there
pub option-ask : (collections : Rows) (prompts : Prompts) (ask : Ask) → ask.prompt.0 < 2 ^ 64 → size_alone (cons_option (ask_signal_in collections prompts ask) []) ≤ 1299
option-ask collections prompts ask fits = signal-size collections prompts ask [] 0 fits (omega arith)

pub one-completed : (dismissed : Bool) (created : Option (List ℕ)) (ended : Ended) → ended.prompt.0 < 2 ^ 64 → done_weight ended.kind ≤ most_weight → IfSome created IsStem
    → size_alone (completed_signal dismissed created ended ∷ []) ≤ 8388836
one-completed dismissed created ended fits light stem = omega (arith, completed-size dismissed created ended fits light stem)
