use Rattle.std.proofs.Common.{◌≡◌, ◌<◌, length, true, false, None, Some, refl, sym, ap, subst, ◌∙◌}
use Rattle.std.specs.Option.{is_some, option_copied}
use Rattle.service_events.specs.collection_table.specs.Rows.{has, is_open}
use Rattle.prompt_state.specs.Prompts.{first_of_row, next_round, row_at, targeted}
use Rattle.prompt_state.specs.Targets.{first_done, first_dropped}
use Rattle.service_events.specs.service_tables.specs.Opened.{contents_of}
use Rattle.service_events.specs.service_tables.specs.TablesReading.{asked_collections}
use Rattle.service_events.specs.PromptCalls.{passed_over}
use Rattle.service_calls.specs.Rows.{rows_of}
use Rattle.service_events.proofs.AdvanceLemmas.{fewer-left, left_in_row, round-targeted, there-targeted}
use Rattle.service_calls.proofs.PassLemmas.{passed-done, passed-dropped, passed-left, passed-state}
use Rattle.service_calls.proofs.tables.Tables.pass_targets.Goals as goal

-- the collection of the first target is gone
pub loop-target-preserved-then-not-there : goal.loop-target-preserved-then-not-there
loop-target-preserved-then-not-there g c =
    let prompt = c.args.prompt in
    let old = rows_of c.loop-target.self in
    let target = c.in-Some.target.now in
    let first : first_of_row (row_at prompt old.prompts) ≡ Some target = sym c.first_open.ensures.first ∙ ap option_copied c.in-Some.is in
    let gone : has target.stem old.collections ≡ false = sym c.has-there.ensures ∙ c.if-not-there.true in
    let its = c.loop-target.invariant in
    let asks = asked_collections (contents_of old) in
    let new : c.drop_target.new.self ≡ targeted prompt first_dropped old.prompts = c.drop_target.ensures in (
      ap (λ p. is_some (row_at prompt p)) new ∙ there-targeted prompt first_dropped old.prompts ∙ its.0,
      ap (λ p. next_round (row_at prompt p)) new ∙ round-targeted prompt first_dropped old.prompts ∙ its.1,
      its.2,
      its.3,
      its.4,
      ap (passed_over prompt asks) new ∙ passed-dropped asks prompt old.prompts c.first_open.ensures.sound target first gone ∙ its.5,
      its.6,
    )

pub loop-target-smaller-then-not-there : goal.loop-target-smaller-then-not-there
loop-target-smaller-then-not-there g c =
    let prompt = c.args.prompt in
    let old = c.loop-target.self.prompts in
    let target = c.in-Some.target.now in
    let first : first_of_row (row_at prompt old) ≡ Some target = sym c.first_open.ensures.first ∙ ap option_copied c.in-Some.is in
    subst (λ p. length (left_in_row (row_at prompt p)) < length (left_in_row (row_at prompt old))) (sym c.drop_target.ensures) (fewer-left prompt first_dropped (λ targets. refl) old target first)

-- it is unlocked
pub loop-target-preserved : goal.loop-target-preserved
loop-target-preserved g c =
    let prompt = c.args.prompt in
    let old = rows_of c.loop-target.self in
    let target = c.in-Some.target.now in
    let first : first_of_row (row_at prompt old.prompts) ≡ Some target = sym c.first_open.ensures.first ∙ ap option_copied c.in-Some.is in
    let there : has target.stem old.collections ≡ true = sym c.has-there.ensures ∙ c.if-not-there.false in
    let unlocked : is_open target.stem old.collections ≡ true = sym c.is_open-open.ensures ∙ c.if-open.true in
    let its = c.loop-target.invariant in
    let asks = asked_collections (contents_of old) in
    let new : c.done.new.self ≡ targeted prompt first_done old.prompts = c.done.ensures in (
      ap (λ p. is_some (row_at prompt p)) new ∙ there-targeted prompt first_done old.prompts ∙ its.0,
      ap (λ p. next_round (row_at prompt p)) new ∙ round-targeted prompt first_done old.prompts ∙ its.1,
      its.2,
      its.3,
      its.4,
      ap (passed_over prompt asks) new ∙ passed-done asks prompt old.prompts c.first_open.ensures.sound target first there unlocked ∙ its.5,
      its.6,
    )

pub loop-target-smaller : goal.loop-target-smaller
loop-target-smaller g c =
    let prompt = c.args.prompt in
    let old = c.loop-target.self.prompts in
    let target = c.in-Some.target.now in
    let first : first_of_row (row_at prompt old) ≡ Some target = sym c.first_open.ensures.first ∙ ap option_copied c.in-Some.is in
    subst (λ p. length (left_in_row (row_at prompt p)) < length (left_in_row (row_at prompt old))) (sym c.done.ensures) (fewer-left prompt first_done (λ targets. refl) old target first)

-- the prompt is asked for the first target that is left
pub returns-else-open-clause-passed : goal.returns-else-open-clause-passed
returns-else-open-clause-passed g c =
    let prompt = c.args.prompt in
    let old = rows_of c.loop-target.self in
    let target = c.in-Some.target.now in
    let first : first_of_row (row_at prompt old.prompts) ≡ Some target = sym c.first_open.ensures.first ∙ ap option_copied c.in-Some.is in
    let there : has target.stem old.collections ≡ true = sym c.has-there.ensures ∙ c.if-not-there.false in
    let locked : is_open target.stem old.collections ≡ false = sym c.is_open-open.ensures ∙ c.if-open.false in
    let its = c.loop-target.invariant in
    passed-state (rows_of c.args.self.now) old prompt (λ i. record { rows = (its.2 i).rows; next = (its.2 i).next }) its.6 its.4 its.5 (passed-left (asked_collections (contents_of old)) prompt old.prompts c.first_open.ensures.sound (Some target) first (there, locked))

-- none is left
pub returns-clause-passed : goal.returns-clause-passed
returns-clause-passed g c =
    let prompt = c.args.prompt in
    let old = rows_of c.loop-target.self in
    let first : first_of_row (row_at prompt old.prompts) ≡ None = sym c.first_open.ensures.first ∙ ap option_copied c.in_default.is in
    let its = c.loop-target.invariant in
    passed-state (rows_of c.args.self.now) old prompt (λ i. record { rows = (its.2 i).rows; next = (its.2 i).next }) its.6 its.4 its.5 (passed-left (asked_collections (contents_of old)) prompt old.prompts c.first_open.ensures.sound None first tt)
