-- How a prompt advances: target by target, and what the last change sends.
use Rattle.std.proofs.Common.{◌≡◌, ◌<◌, Bool, true, false, cond, nat_eq, List, [], ◌∷◌, length, map, find, Option, Some, None, refl, sym, ap, subst, ◌∙◌, arith}
use Rattle.std.specs.Option.{is_some, option_map}
use Rattle.std.proofs.lemmas.Bool.{eqb-true}
use Rattle.kr_base.specs.declared.ids.PromptId.{PromptId}
use Rattle.prompt_state.specs.Prompts.{changed, first_of_kind, first_of_row, is_prompt, kind_with, next_round, row_at, targeted}
use Rattle.prompt_state.specs.Targets.{TargetLists, first_of, rest_of}
use Rattle.prompt_state.specs.declared.row.PromptKind.{PromptKind}
use Rattle.prompt_state.specs.declared.row.PromptKind.TheVariants.{Unlock, Create, Change}
use Rattle.prompt_state.specs.declared.row.PromptRow.{PromptRow}
use Rattle.prompt_state.specs.declared.row.Prompts.{Prompts}
use Rattle.prompt_state.specs.declared.targets.Target.{Target}

-- ---- a row that changes

-- a change keeps a row's number
abbrev pub KeepsPrompt : (PromptRow → PromptRow) → Type 0
KeepsPrompt f = (row : PromptRow) → (f row).prompt ≡ row.prompt

find-changed : (prompt : PromptId) (f : PromptRow → PromptRow) (rows : List PromptRow) → KeepsPrompt f
    → find (is_prompt prompt) (map (λ row. cond (is_prompt prompt row) (f row) row) rows) ≡ option_map f (find (is_prompt prompt) rows)
find-changed prompt f [] keeps = refl
find-changed prompt f (row ∷ rows) keeps =
    let rest = map (λ row. cond (is_prompt prompt row) (f row) row) rows in
    let pass : (b : Bool) → is_prompt prompt row ≡ b → find (is_prompt prompt) (cond b (f row) row ∷ rest) ≡ option_map f (cond b (Some row) (find (is_prompt prompt) rows)) =
    elim [
      | true ↦ λ is. ap (λ b. cond b (Some (f row)) (find (is_prompt prompt) rest)) (ap (λ (p : PromptId). nat_eq p.0 prompt.0) (keeps row) ∙ is)
      | false ↦ λ is. ap (λ b. cond b (Some row) (find (is_prompt prompt) rest)) is ∙ find-changed prompt f rows keeps
    ] in
    pass (is_prompt prompt row) refl

pub row-changed : (prompt : PromptId) (f : PromptRow → PromptRow) (prompts : Prompts) → KeepsPrompt f → row_at prompt (changed prompt f prompts) ≡ option_map f (row_at prompt prompts)
row-changed prompt f prompts keeps = find-changed prompt f prompts.rows keeps

-- the row of a prompt has its number
find-number : (prompt : PromptId) (rows : List PromptRow) (row : PromptRow) → find (is_prompt prompt) rows ≡ Some row → is_prompt prompt row ≡ true
find-number prompt [] row is = absurd (let no : None ≡ Some row = is in cc)
find-number prompt (first ∷ rows) row is =
    let pass : (b : Bool) → is_prompt prompt first ≡ b → cond b (Some first) (find (is_prompt prompt) rows) ≡ Some row → is_prompt prompt row ≡ true =
    elim [
      | true ↦ λ its found. let same : first ≡ row = cc in ap (is_prompt prompt) (sym same) ∙ its
      | false ↦ λ its found. find-number prompt rows row found
    ] in
    pass (is_prompt prompt first) refl is

pub row-number : (prompt : PromptId) (prompts : Prompts) (row : PromptRow) → row_at prompt prompts ≡ Some row → row.prompt ≡ prompt
row-number prompt prompts row is =
    let same : row.prompt.0 ≡ prompt.0 = eqb-true row.prompt.0 prompt.0 (find-number prompt prompts.rows row is) in
    λ i. record { 0 = same i }

-- ---- a change of the targets

-- the targets that are left of what a prompt is for
abbrev left_in : PromptKind → List Target
left_in (Unlock targets) = targets.left
left_in (Create label alias salt) = []
left_in (Change stem salt) = []

-- the same of a prompt, if it is there
abbrev pub left_in_row : Option PromptRow → List Target
left_in_row None = []
left_in_row (Some row) = left_in row.kind

-- a prompt whose targets change is there as before, in the same round
pub there-targeted : (prompt : PromptId) (change : TargetLists → TargetLists) (prompts : Prompts) → is_some (row_at prompt (targeted prompt change prompts)) ≡ is_some (row_at prompt prompts)
there-targeted prompt change prompts =
    let f : PromptRow → PromptRow = λ row. record row { kind = kind_with change row.kind } in
    let pass : (o : Option PromptRow) → is_some (option_map f o) ≡ is_some o = elim [ None ↦ refl | Some row ↦ refl ] in
    ap is_some (row-changed prompt f prompts (λ row. refl)) ∙ pass (row_at prompt prompts)

pub round-targeted : (prompt : PromptId) (change : TargetLists → TargetLists) (prompts : Prompts) → next_round (row_at prompt (targeted prompt change prompts)) ≡ next_round (row_at prompt prompts)
round-targeted prompt change prompts =
    let f : PromptRow → PromptRow = λ row. record row { kind = kind_with change row.kind } in
    let pass : (o : Option PromptRow) → next_round (option_map f o) ≡ next_round o = elim [ None ↦ refl | Some row ↦ refl ] in
    ap next_round (row-changed prompt f prompts (λ row. refl)) ∙ pass (row_at prompt prompts)

-- one target fewer is left
abbrev pub LeavesRest : (TargetLists → TargetLists) → Type 0
LeavesRest change = (targets : TargetLists) → (change targets).left ≡ rest_of targets.left

kind-left : (change : TargetLists → TargetLists) → LeavesRest change → (k : PromptKind) → left_in (kind_with change k) ≡ rest_of (left_in k)
kind-left change rest (Unlock targets) = rest targets
kind-left change rest (Create label alias salt) = refl
kind-left change rest (Change stem salt) = refl

left-row : (change : TargetLists → TargetLists) → LeavesRest change → (row : Option PromptRow)
    → left_in_row (option_map (λ (r : PromptRow). record r { kind = kind_with change r.kind }) row) ≡ rest_of (left_in_row row)
left-row change rest None = refl
left-row change rest (Some row) = kind-left change rest row.kind

kind-first : (k : PromptKind) → first_of_kind k ≡ first_of (left_in k)
kind-first (Unlock targets) = refl
kind-first (Create label alias salt) = refl
kind-first (Change stem salt) = refl

first-left : (row : Option PromptRow) → first_of_row row ≡ first_of (left_in_row row)
first-left None = refl
first-left (Some row) = kind-first row.kind

shorter : (left : List Target) (target : Target) → first_of left ≡ Some target → length (rest_of left) < length left
shorter [] target first = absurd (let no : None ≡ Some target = first in cc)
shorter (one ∷ more) target first = omega arith

pub fewer-left : (prompt : PromptId) (change : TargetLists → TargetLists) → LeavesRest change → (prompts : Prompts) (target : Target) → first_of_row (row_at prompt prompts) ≡ Some target
    → length (left_in_row (row_at prompt (targeted prompt change prompts))) < length (left_in_row (row_at prompt prompts))
fewer-left prompt change rest prompts target first =
    let f : PromptRow → PromptRow = λ row. record row { kind = kind_with change row.kind } in
    let same : left_in_row (row_at prompt (targeted prompt change prompts)) ≡ rest_of (left_in_row (row_at prompt prompts)) =
    ap left_in_row (row-changed prompt f prompts (λ row. refl)) ∙ left-row change rest (row_at prompt prompts) in
    subst (λ l. length l < length (left_in_row (row_at prompt prompts))) (sym same)
    (shorter (left_in_row (row_at prompt prompts)) target (sym (first-left (row_at prompt prompts)) ∙ first))
