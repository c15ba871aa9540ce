-- A search of a load, once all items are made.
use Rattle.std.proofs.Common.{◌≡◌, ℕ, zero, suc, ◌+◌, ◌^◌, ◌<◌, ◌≤◌, ◌&&◌, ◌||◌, Bool, true, false, cond, nat_eq, nat_lt, List, [], ◌∷◌, ◌++◌, length, map, filter, Option, Ok, codes, decimal, refl, sym, ap, ◌∙◌, arith}
use Rattle.std.specs.List.{AllByRecursion}
use Rattle.std.proofs.lemmas.Bool.Decides.{nat_tests}
use Rattle.std.proofs.lemmas.Fmt.{decimal_injective}
use Rattle.kr_base.specs.declared.attributes.AttrValue.{AttrValue}
use Rattle.kr_base.specs.declared.attributes.AttrValue.TheVariants as value
use Rattle.kr_base.specs.Attributes.{is_name}
use Rattle.attribute_match.specs.Match.{matches}
use Rattle.keyring_file.specs.Clear.{ClearPart}
use Rattle.connection_worker.specs.service_events.specs.service_tables.specs.keyring_seal.specs.Arranged.{Row, row_number}
use Rattle.connection_worker.specs.service_events.specs.secret_calls.specs.declared.out.Body.TheVariants as body
use Rattle.connection_worker.specs.service_events.specs.alias_table.specs.Table.{AliasRows}
use Rattle.prompt_state.specs.declared.row.Prompts.{Prompts}
use Rattle.connection_worker.specs.service_events.specs.service_disk.proofs.TakingLemmas.{itself, names-apart}
use Rattle.connection_worker.specs.service_events.specs.service_tables.specs.Objects.{item_paths}
use Rattle.connection_worker.specs.service_events.specs.service_tables.specs.declared.rows.ConnRows.{ConnRows}
use Rattle.connection_worker.specs.service_events.specs.service_tables.specs.declared.fate.Fate.{Fate}
use Rattle.connection_worker.specs.service_events.specs.PublicBody as public
use Rattle.connection_worker.specs.service_events.specs.Plan.{Returns}
use Rattle.connection_worker.specs.service_events.specs.Run.{Ran}
use Rattle.connection_worker.specs.service_events.specs.Step.{brought_with}
use Rattle.connection_worker.specs.Fitting.{announced_in}
use Rattle.load_plan.specs.Plan.{attributes_of, search, the_name}
use Rattle.load_plan.specs.Words.{group_of}
use Rattle.load_laws.proofs.CreateLemmas.{collection_of, tables_with}
use Rattle.load_laws.proofs.OpeningLemmas.{Leads, run-ends}
use Rattle.load_laws.proofs.RowLemmas.{AreItems}
use Rattle.load_laws.proofs.SizeLemmas.{found-fits, item-path}
use Rattle.load_laws.proofs.TurnLemmas.{tables, with_tables}

-- ---- which items match

-- what is searched for
abbrev pub wanted : ℕ → List (List ℕ × AttrValue)
wanted group = (codes "group", value.Text (decimal group)) ∷ []

alone : (b : Bool) → ((b || (false || false)) && true) ≡ b
alone true = refl
alone false = refl

-- groups have one text
group-text : (group other : ℕ) → group < 2 ^ 64 → other < 2 ^ 64 → is_name (decimal group) (decimal other) ≡ nat_eq other group
group-text group other fits others = pass (nat_eq other group) refl
  where
    pass : (b : Bool) → nat_eq other group ≡ b → is_name (decimal group) (decimal other) ≡ b
    pass true on = let same : other ≡ group = grind (arith, nat_tests, on) in ap (λ n. is_name (decimal group) (decimal n)) same ∙ itself (decimal group)
    pass false off =
        names-apart (decimal group) (decimal other)
        (λ e. (let same : other ≡ group = decimal_injective other group others fits e in let yes : nat_eq other group ≡ true = grind (arith, nat_tests, same) in let no : true ≡ false = sym yes ∙ off in cc))

-- an item matches exactly if it is in the group
item-matches : (seed item group : ℕ) → group < 2 ^ 64 → matches (wanted group) (attributes_of seed item) ≡ nat_eq (group_of seed item) group
item-matches seed item group fits =
    alone (is_name (decimal group) (decimal (group_of seed item))) ∙ group-text group (group_of seed item) fits (omega arith)

-- 1 if this is so
abbrev pub tally : Bool → ℕ
tally b = cond b 1 0

-- how many of so many items from this one on are in a group
abbrev pub hits : ℕ → ℕ → ℕ → ℕ → ℕ
hits seed group item zero = 0
hits seed group item (suc n) = tally (nat_eq (group_of seed item) group) + hits seed group (suc item) n

-- how many are in a group below this one
abbrev pub below : ℕ → ℕ → ℕ → ℕ → ℕ
below seed group item zero = 0
below seed group item (suc n) = tally (nat_lt (group_of seed item) group) + below seed group (suc item) n

one-below : (k group : ℕ) → cond (nat_lt k (group + 1)) 1 0 ≡ cond (nat_lt k group) 1 0 + cond (nat_eq k group) 1 0
one-below k group = pass (nat_lt k group) (nat_eq k group) (nat_lt k (group + 1)) refl refl refl
  where
    pass : (a b c : Bool) → nat_lt k group ≡ a → nat_eq k group ≡ b → nat_lt k (group + 1) ≡ c → cond c 1 0 ≡ cond a 1 0 + cond b 1 0
    pass true true c lt eq next = absurd (grind (arith, nat_tests, lt, eq))
    pass true false true lt eq next = refl
    pass true false false lt eq next = absurd (grind (arith, nat_tests, lt, next))
    pass false true true lt eq next = refl
    pass false true false lt eq next = absurd (grind (arith, nat_tests, eq, next))
    pass false false true lt eq next = absurd (grind (arith, nat_tests, lt, eq, next))
    pass false false false lt eq next = refl

pub below-more : (seed group item n : ℕ) → below seed (group + 1) item n ≡ below seed group item n + hits seed group item n
below-more seed group item zero = refl
below-more seed group item (suc n) = omega (arith, one-below (group_of seed item) group, below-more seed group (suc item) n)

pub below-none : (seed item n : ℕ) → below seed 0 item n ≡ 0
below-none seed item zero = refl
below-none seed item (suc n) =
    let off : nat_lt (group_of seed item) 0 ≡ false = grind (arith, nat_tests) in
    let first : tally (nat_lt (group_of seed item) 0) ≡ 0 = ap tally off in
    omega (arith, first, below-none seed (suc item) n)

-- each is in one of ten groups
pub below-all : (seed item n : ℕ) → below seed 10 item n ≡ n
below-all seed item zero = refl
below-all seed item (suc n) =
    let small : group_of seed item < 10 = omega arith in
    let on : nat_lt (group_of seed item) 10 ≡ true = grind (arith, nat_tests, small) in
    let first : tally (nat_lt (group_of seed item) 10) ≡ 1 = ap tally on in
    omega (arith, first, below-all seed (suc item) n)

pub below-few : (seed group item n : ℕ) → below seed group item n ≤ n
below-few seed group item zero = omega arith
below-few seed group item (suc n) =
    let rest = below-few seed group (suc item) n in
    let pass : (b : Bool) → cond b 1 0 + below seed group (suc item) n ≤ suc n = elim [ true ↦ omega (arith, rest) | false ↦ omega (arith, rest) ] in
    pass (nat_lt (group_of seed item) group)

-- ---- what is found

-- the paths of rows
abbrev pub paths_of : List Row → List (List ℕ)
paths_of rows = item_paths the_name (map (λ id. record { 0 = id }) (map row_number rows)) ++ []

-- those of the rows that match
abbrev pub matching : ℕ → List Row → List Row
matching group rows = filter (λ (row : Row). matches (wanted group) row.1.attributes) rows

pub found-many : (seed group item : ℕ) (rows : List Row) → group < 2 ^ 64 → AreItems seed item rows → length (paths_of (matching group rows)) ≡ hits seed group item (length rows)
found-many seed group item [] fits are = refl
found-many seed group item (row ∷ rows) fits are =
    let test : matches (wanted group) row.1.attributes ≡ nat_eq (group_of seed item) group = ap (λ (r : Row). matches (wanted group) r.1.attributes) are.0.is ∙ item-matches seed item group fits in
    let rest = found-many seed group (suc item) rows fits are.1 in
    let pass : (b : Bool) → length (paths_of (cond b (row ∷ matching group rows) (matching group rows))) ≡ cond b 1 0 + hits seed group (suc item) (length rows) =
    elim [ true ↦ omega (arith, rest) | false ↦ omega (arith, rest) ] in
    ap (λ (b : Bool). length (paths_of (cond b (row ∷ matching group rows) (matching group rows)))) test ∙ pass (nat_eq (group_of seed item) group)

found-short : (seed group item : ℕ) (rows : List Row) → item + length rows < 2 ^ 32 → AreItems seed item rows → AllByRecursion (λ path. length path ≤ 100) (paths_of (matching group rows))
found-short seed group item [] fits are = tt
found-short seed group item (row ∷ rows) fits are =
    let rest = found-short seed group (suc item) rows (omega (arith, fits)) are.1 in
    let number : row_number row ≡ item + 1 = ap row_number are.0.is in
    let pass : (b : Bool) → AllByRecursion (λ path. length path ≤ 100) (paths_of (cond b (row ∷ matching group rows) (matching group rows))) =
    elim [ true ↦ (item-path (record { 0 = row_number row }) (omega (arith, number, fits)), rest) | false ↦ rest ] in
    pass (matches (wanted group) row.1.attributes)

hits-few : (seed group item n : ℕ) → hits seed group item n ≤ n
hits-few seed group item zero = omega arith
hits-few seed group item (suc n) =
    let rest = hits-few seed group (suc item) n in
    let pass : (b : Bool) → cond b 1 0 + hits seed group (suc item) n ≤ suc n = elim [ true ↦ omega (arith, rest) | false ↦ omega (arith, rest) ] in
    pass (nat_eq (group_of seed item) group)

-- ---- the call

module _ (seed group now : ℕ) (salt : List ℕ) (fates : List Fate) (connections : ConnRows) (prompts : Prompts) (aliases : Option AliasRows) (used : List (List ℕ)) (image : List ℕ) (front : ClearPart) (key vector : List ℕ)
    (rows : List Row) (items : AreItems seed 0 rows) (few : length rows ≤ 1000) (fits : group < 2 ^ 64) where
  pub searched : Leads connections (tables_with prompts aliases used (collection_of image front key vector rows)) (search group) salt now fates (body.Found (paths_of (matching group rows)) [])
      (tables_with prompts aliases used (collection_of image front key vector rows))
  searched =
      let paths = paths_of (matching group rows) in
      let small =
      found-fits paths (found-short seed group 0 rows (omega (arith, few)) items) (omega (arith, few, found-many seed group 0 rows fits items, hits-few seed group 0 (length rows))) in
      let ends =
      run-ends (brought_with now (Ok (search group))) fates (with_tables connections (tables_with prompts aliases used (collection_of image front key vector rows))) (Returns (public.Found paths [])) [] small in
      record { answer = ap (λ (r : Ran). r.answer) ends; leaves = ap (λ (r : Ran). tables r.state) ends; silent = ap (λ (r : Ran). announced_in r.sends) ends }
