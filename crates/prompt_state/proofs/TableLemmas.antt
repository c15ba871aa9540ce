-- What the calls of the table know of a prompt's row.
use Rattle.std.proofs.Common.{◌≡◌, ℕ, ◌≤◌, Bool, true, false, nat_eq, length, List, [], ◌∷◌, filter, find, Option, Some, None, refl, sym, ap, subst, ◌∙◌}
use Rattle.std.specs.List.{AllByRecursion}
use Rattle.std.specs.Option.{is_some, option_map}
use Rattle.std.proofs.lemmas.Bool.{eqb-true}
use Rattle.std.proofs.lemmas.List.{length-map}
use Rattle.kr_base.specs.declared.ids.ConnId.{ConnId}
use Rattle.kr_base.specs.declared.ids.PromptId.{PromptId}
use Rattle.prompt_state.specs.declared.row.PromptRow.{PromptRow}
use Rattle.prompt_state.specs.declared.row.Prompts.{Prompts}
use Rattle.prompt_state.specs.declared.row.Stage.{Stage}
use Rattle.prompt_state.specs.declared.row.Stage.TheVariants.{Made, Asked, Deriving}
use Rattle.prompt_state.specs.declared.table.PromptRefused.TheVariants as refused
use Rattle.prompt_state.specs.Prompts.{AreSound, IsStage, is_agent, is_asked_in, one_more, refusal, refusal_of, row_at, rows_of}
use Rattle.prompt_state.specs.Kept.{AreIndexed, AreNumbered, Entries, entry_at, numbers_at, prompts_of}
use Rattle.prompt_state.proofs.IndexLemmas.{row-is}

-- ---- the agent's

find-all : (P : PromptRow → Type 0) (p : PromptRow → Bool) (rows : List PromptRow) (row : PromptRow) → AllByRecursion P rows → find p rows ≡ Some row → P row
find-all P p [] row all there = absurd cc
find-all P p (x ∷ xs) row all there =
    let step : (b : Bool) → p x ≡ b → P row =
    elim [
      | true ↦ λ is. let found : Some x ≡ Some row = rw is at there in let same : x ≡ row = cc in subst P same all.0
      | false ↦ λ off. let later : find p xs ≡ Some row = rw off at there in find-all P p xs row all.1 later
    ] in
    step (p x) refl

asked-round : (stage : Stage) (round : ℕ) → is_asked_in round stage ≡ true → IsStage stage → 1 ≤ round
asked-round Made round is valid = absurd cc
asked-round (Asked own) round is valid = subst (λ n. 1 ≤ n) (eqb-true own round is) valid.0
asked-round (Deriving own) round is valid = absurd cc

pub asked-valid : (prompt : PromptId) (prompts : Prompts) (row : PromptRow) (round : ℕ) → AreSound prompts → Some row ≡ row_at prompt prompts → is_asked_in round row.stage ≡ true → 1 ≤ round
asked-valid prompt prompts row round sound there is = asked-round row.stage round is (find-all (λ r. IsStage r.stage) (λ r. nat_eq r.prompt.0 prompt.0) prompts.rows row sound.rounds (sym there))

there-of : (round : ℕ) (row : Option PromptRow) → refusal_of round row ≡ None → is_some row ≡ true
there-of round None taken = absurd cc
there-of round (Some row) taken = refl

pub taken-there : (prompt : PromptId) (round : ℕ) (from : ConnId) (prompts : Prompts) → refusal prompt round from prompts ≡ None → is_some (row_at prompt prompts) ≡ true
taken-there prompt round from prompts taken =
    let step : (b : Bool) → is_agent from prompts ≡ b → is_some (row_at prompt prompts) ≡ true =
    elim [
      | true ↦ λ is. let found : refusal_of round (row_at prompt prompts) ≡ None = rw is at taken in there-of round (row_at prompt prompts) found
      | false ↦ λ off. let stays : Some refused.NotAgent ≡ None = rw off at taken in absurd cc
    ] in
    step (is_agent from prompts) refl

-- ---- the table's

pub no-row : (entries : Entries) (agent : Option ConnId) (next : ℕ) (prompt : PromptId) → AreNumbered entries → None ≡ entry_at prompt.0 entries → is_some (row_at prompt (prompts_of entries agent next)) ≡ true → ⊥
no-row entries agent next prompt numbered none there =
    let gone : row_at prompt (prompts_of entries agent next) ≡ None = sym (none ∙ row-is entries agent next prompt numbered) in
    let bad : false ≡ true = rw gone at there in
    absurd cc

pub own-count : (owner : ConnId) (rows : List PromptRow) (pairs : List (ℕ × ℕ)) → AreIndexed rows pairs → length (numbers_at owner.0 pairs) ≡ length (rows_of owner rows)
own-count owner rows pairs indexed = ap length (indexed.same owner.0) ∙ length-map (filter (λ row. nat_eq row.owner.0 owner.0) rows) (λ row. row.prompt.0)

pub no-count : (row : Option PromptRow) → None ≡ option_map (λ row. one_more row.wrong) row → None ≡ row
no-count None none = refl
no-count (Some row) none = absurd cc
