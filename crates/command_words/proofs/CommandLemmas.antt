-- The table of commands: which row a name, operands and values are.
use Rattle.std.proofs.Common.{◌≡◌, ℕ, ◌+◌, ◌<◌, ◌≤◌, Bool, true, false, List, [], ◌∷◌, length, get_or, drop, Option, None, Some, Result, Ok, Err, refl, sym, ◌∙◌, ap, subst, arith}
use Rattle.std.specs.Prelude.{codes, MatchOption, OnErr}
use Rattle.command_words.specs.declared.beginning.FlagName.{FlagName}
use Rattle.command_words.specs.declared.beginning.FlagName.TheVariants.{UntilEof, Password}
use Rattle.command_words.specs.declared.command_line.CommandLine.{CommandLine}
use Rattle.command_words.specs.declared.command_line.CommandLine.TheVariants.{Stdio, Serve, ServeUntilEof, Load, Check}
use Rattle.command_words.specs.Arguments.{HasArguments}
use Rattle.command_words.specs.Numbers.{IsNumber, IsNoNumber}
use Rattle.command_words.specs.CommandLines.{IsCount, IsNoCount, HasFlag, IsNoFlag, IsServe, IsCommand, Answers, HasCommand, IsCommandLine, HasCommandLine, IsNoCommandLine}
use Rattle.command_words.specs.Found.{FindsNone}
use Rattle.command_words.proofs.ArgumentLemmas.{Words, Flags, one_reading}
use Rattle.command_words.proofs.NumberLemmas.{one_number, one_short}

-- ---- the names

-- the second byte of a command's name says which it is, but for the flag of `serve`
abbrev mark : CommandLine → ℕ
mark (Stdio folder uid) = 116
mark (Serve folder socket uid connections) = 101
mark (ServeUntilEof folder socket uid connections) = 102
mark (Load items seed) = 111
mark (Check folder password) = 104

-- which counts one
abbrev counted : Flags → ℕ
counted [] = 0
counted (UntilEof ∷ more) = 1
counted (Password ∷ more) = 0

checked : (given : Bool) (f : Flags) → HasFlag Password given f → counted f ≡ 0
checked true f is = ap counted is
checked false f is = ap counted is

marked : (line : CommandLine) (name : List ℕ) (o u c : Words) (f : Flags) → IsCommand line name o u c f → get_or name 1 0 + counted f ≡ mark line
marked (Stdio folder uid) name o u c f is = λ i. get_or (is.named i) 1 0 + counted (is.no_flag i)
marked (Serve folder socket uid connections) name o u c f is = λ i. get_or (is.named i) 1 0 + counted (is.flagged i)
marked (ServeUntilEof folder socket uid connections) name o u c f is = λ i. get_or (is.named i) 1 0 + counted (is.flagged i)
marked (Load items seed) name o u c f is = λ i. get_or (is.named i) 1 0 + counted (is.no_flag i)
marked (Check folder password) name o u c f is = ap (λ l. get_or l 1 0 + counted f) is.named ∙ ap (λ k. 104 + k) (checked password f is.flagged)

-- there are neither two operands nor is it `check`
pub not_two : (name : List ℕ) (o u c : Words) (f : Flags) → (name ≡ codes "check" → ⊥) → (length o ≡ 2 → ⊥) → (line : CommandLine) → IsCommand line name o u c f → ⊥
not_two name o u c f other few (Stdio folder uid) is = few (ap length is.two)
not_two name o u c f other few (Serve folder socket uid connections) is = few (ap length is.two)
not_two name o u c f other few (ServeUntilEof folder socket uid connections) is = few (ap length is.two)
not_two name o u c f other few (Load items seed) is = few (ap length is.two)
not_two name o u c f other few (Check folder password) is = other is.named

-- no command has more than two operands
few_operands : (line : CommandLine) (name : List ℕ) (o u c : Words) (f : Flags) → IsCommand line name o u c f → length o ≤ 2
few_operands (Stdio folder uid) name o u c f is = let exact : length o ≡ 2 = ap length is.two in omega (arith, exact)
few_operands (Serve folder socket uid connections) name o u c f is = let exact : length o ≡ 2 = ap length is.two in omega (arith, exact)
few_operands (ServeUntilEof folder socket uid connections) name o u c f is = let exact : length o ≡ 2 = ap length is.two in omega (arith, exact)
few_operands (Load items seed) name o u c f is = let exact : length o ≡ 2 = ap length is.two in omega (arith, exact)
few_operands (Check folder password) name o u c f is = let exact : length o ≡ 1 = ap length is.one in omega (arith, exact)

-- another name than the four
pub no_name : (name : List ℕ) (o u c : Words) (f : Flags) → (name ≡ codes "serve" → ⊥) → (name ≡ codes "stdio" → ⊥) → (name ≡ codes "load" → ⊥) → (name ≡ codes "check" → ⊥) → (line : CommandLine) → IsCommand line name o u c f → ⊥
no_name name o u c f serve stdio load check (Stdio folder uid) is = stdio is.named
no_name name o u c f serve stdio load check (Serve folder socket uid connections) is = serve is.named
no_name name o u c f serve stdio load check (ServeUntilEof folder socket uid connections) is = serve is.named
no_name name o u c f serve stdio load check (Load items seed) is = load is.named
no_name name o u c f serve stdio load check (Check folder password) is = check is.named

-- an option or a flag, and another command than `serve` and `check`
pub not_bare : (name : List ℕ) (o u c : Words) (f : Flags) → (name ≡ codes "serve" → ⊥) → (name ≡ codes "check" → ⊥) → ((u ≡ []) × (c ≡ []) × (f ≡ []) → ⊥) → (line : CommandLine) → IsCommand line name o u c f → ⊥
not_bare name o u c f serve check bare (Stdio folder uid) is = bare (is.no_uid, is.no_connections, is.no_flag)
not_bare name o u c f serve check bare (Serve folder socket uid connections) is = serve is.named
not_bare name o u c f serve check bare (ServeUntilEof folder socket uid connections) is = serve is.named
not_bare name o u c f serve check bare (Load items seed) is = bare (is.no_uid, is.no_connections, is.no_flag)
not_bare name o u c f serve check bare (Check folder password) is = check is.named

-- ---- stdio

pub no_stdio : (folder user : List ℕ) → IsNoNumber 32 user → (line : CommandLine) → IsCommand line (codes "stdio") (folder ∷ user ∷ []) [] [] [] → ⊥
no_stdio folder user none (Stdio other uid) is = none uid (subst (IsNumber 32 uid) (ap (λ l. get_or l 1 []) (sym is.two)) is.number)
no_stdio folder user none (Serve other socket uid connections) is =
    let one = marked (Serve other socket uid connections) (codes "stdio") (folder ∷ user ∷ []) [] [] [] is in
    absurd (omega (arith, one))
no_stdio folder user none (ServeUntilEof other socket uid connections) is =
    let one = marked (ServeUntilEof other socket uid connections) (codes "stdio") (folder ∷ user ∷ []) [] [] [] is in
    absurd (omega (arith, one))
no_stdio folder user none (Load items seed) is =
    let one = marked (Load items seed) (codes "stdio") (folder ∷ user ∷ []) [] [] [] is in
    absurd (omega (arith, one))
no_stdio folder user none (Check other password) is =
    let one = marked (Check other password) (codes "stdio") (folder ∷ user ∷ []) [] [] [] is in
    absurd (omega (arith, one))

pub has_stdio : (folder user : List ℕ) (uid : ℕ) → IsNumber 32 uid user → HasCommand (codes "stdio") (folder ∷ user ∷ []) [] [] []
has_stdio folder user uid is = (Stdio folder uid, record { user = user; named = refl; two = refl; number = is; no_uid = refl; no_connections = refl; no_flag = refl })

-- ---- serve

only_serve : (folder socket : List ℕ) (u c : Words) (f : Flags)
    → ((user : List ℕ) (uid : ℕ) (count : Option ℕ) (given : Bool) → u ≡ user ∷ [] → IsNumber 32 uid user → IsCount count c → HasFlag UntilEof given f → ⊥)
    → (line : CommandLine) → IsCommand line (codes "serve") (folder ∷ socket ∷ []) u c f → ⊥
only_serve folder socket u c f none (Stdio other uid) is =
    let one : 101 + counted f ≡ 116 = marked (Stdio other uid) (codes "serve") (folder ∷ socket ∷ []) u c f is in
    let zero : counted f ≡ 0 = ap counted is.no_flag in
    absurd (omega (arith, one, zero))
only_serve folder socket u c f none (Serve other also uid connections) is = none is.user uid connections false is.one_uid is.number is.counted is.flagged
only_serve folder socket u c f none (ServeUntilEof other also uid connections) is = none is.user uid connections true is.one_uid is.number is.counted is.flagged
only_serve folder socket u c f none (Load items seed) is =
    let one : 101 + counted f ≡ 111 = marked (Load items seed) (codes "serve") (folder ∷ socket ∷ []) u c f is in
    let zero : counted f ≡ 0 = ap counted is.no_flag in
    absurd (omega (arith, one, zero))
only_serve folder socket u c f none (Check other password) is =
    let one : 1 ≡ 2 = ap length (sym is.one) in
    absurd (omega (arith, one))

pub no_user : (folder socket : List ℕ) (u c : Words) (f : Flags) → u ≡ [] → Answers None (codes "serve") (folder ∷ socket ∷ []) u c f
no_user folder socket u c f none = only_serve folder socket u c f (λ user uid count given one is counts flagged. let some : [] ≡ user ∷ [] = sym none ∙ one in cc)

pub no_uid : (folder socket user : List ℕ) (u c : Words) (f : Flags) → u ≡ user ∷ [] → IsNoNumber 32 user → Answers None (codes "serve") (folder ∷ socket ∷ []) u c f
no_uid folder socket user u c f one none =
    only_serve folder socket u c f (λ other uid count given also is counts flagged. none uid (subst (IsNumber 32 uid) (ap (λ l. get_or l 0 []) (sym also ∙ one)) is))

pub no_count : (folder socket : List ℕ) (u c : Words) (f : Flags) → IsNoCount c → Answers None (codes "serve") (folder ∷ socket ∷ []) u c f
no_count folder socket u c f none = only_serve folder socket u c f (λ user uid count given one is counts flagged. none count counts)

pub no_end : (folder socket : List ℕ) (u c : Words) (f : Flags) → IsNoFlag UntilEof f → Answers None (codes "serve") (folder ∷ socket ∷ []) u c f
no_end folder socket u c f none = only_serve folder socket u c f (λ user uid count given one is counts flagged. none given flagged)

is_serve : (given : Bool) (folder socket user : List ℕ) (uid : ℕ) (count : Option ℕ) (u c : Words) (f : Flags) → u ≡ user ∷ [] → IsNumber 32 uid user → IsCount count c
    → HasFlag UntilEof given f → IsServe given folder socket uid count (codes "serve") (folder ∷ socket ∷ []) u c f
is_serve given folder socket user uid count u c f one is counts flagged =
    record { user = user; named = refl; two = refl; one_uid = one; number = is; counted = counts; flagged = flagged }

pub has_serve : (given : Bool) (folder socket user : List ℕ) (uid : ℕ) (count : Option ℕ) (u c : Words) (f : Flags) → u ≡ user ∷ [] → IsNumber 32 uid user → IsCount count c
    → HasFlag UntilEof given f → HasCommand (codes "serve") (folder ∷ socket ∷ []) u c f
has_serve true folder socket user uid count u c f one is counts flagged =
    (ServeUntilEof folder socket uid count, is_serve true folder socket user uid count u c f one is counts flagged)
has_serve false folder socket user uid count u c f one is counts flagged =
    (Serve folder socket uid count, is_serve false folder socket user uid count u c f one is counts flagged)

-- ---- a flag

pub other_flag : (name : FlagName) (found : FlagName) → (found ≡ name → ⊥) → IsNoFlag name (found ∷ [])
other_flag name found other true is = other (ap (λ l. get_or l 0 found) is)
other_flag name found other false is = cc

one_flag : (name : FlagName) (given also : Bool) (f : Flags) → HasFlag name given f → HasFlag name also f → given ≡ also
one_flag name true true f is too = refl
one_flag name false false f is too = refl
one_flag name true false f is too = let some : [] ≡ name ∷ [] = sym too ∙ is in absurd cc
one_flag name false true f is too = let some : [] ≡ name ∷ [] = sym is ∙ too in absurd cc

flag_fits : (name : FlagName) (given : Bool) (f : Flags) → HasFlag name given f → length f ≤ 1
flag_fits name true f is = let one : length f ≡ 1 = ap length is in omega (arith, one)
flag_fits name false f is = let none : length f ≡ 0 = ap length is in omega (arith, none)

-- ---- the value of `--connections`

pub no_long : (text : List ℕ) → IsNoNumber 64 text → (count : Option ℕ) → IsCount count (text ∷ []) → ⊥
no_long text none None is = cc
no_long text none (Some number) is = none number (subst (IsNumber 64 number) (ap (λ l. get_or l 0 []) (sym is.1)) is.2)

pub no_zero : (number : ℕ) (text : List ℕ) → IsNumber 64 number text → number ≡ 0 → (count : Option ℕ) → IsCount count (text ∷ []) → ⊥
no_zero number text is zero None counted = cc
no_zero number text is zero (Some other) counted =
    let same : other ≡ number = one_number other number text (subst (IsNumber 64 other) (ap (λ l. get_or l 0 []) (sym counted.1)) counted.2) is in
    let positive : 0 < other = counted.3 in
    omega (arith, same, zero, positive)

one_count : (count other : Option ℕ) (c : Words) → IsCount count c → IsCount other c → count ≡ other
one_count None None c is also = refl
one_count None (Some number) c is also = let some : [] ≡ also.0 ∷ [] = sym is ∙ also.1 in absurd cc
one_count (Some number) None c is also = let some : [] ≡ is.0 ∷ [] = sym also ∙ is.1 in absurd cc
one_count (Some number) (Some other) c is also =
    ap Some (one_number number other also.0 (subst (IsNumber 64 number) (ap (λ l. get_or l 0 []) (sym is.1 ∙ also.1)) is.2) also.2)

count_fits : (count : Option ℕ) (c : Words) → IsCount count c → length c ≤ 1
count_fits None c is = let none : length c ≡ 0 = ap length is in omega (arith, none)
count_fits (Some number) c is = let one : length c ≡ 1 = ap length is.1 in omega (arith, one)

-- ---- load

only_load : (amount start : List ℕ) → ((items seed : ℕ) → IsNumber 32 items amount → 0 < items → items ≤ 1000 → IsNumber 64 seed start → ⊥)
    → (line : CommandLine) → IsCommand line (codes "load") (amount ∷ start ∷ []) [] [] [] → ⊥
only_load amount start none (Stdio folder uid) is =
    let one = marked (Stdio folder uid) (codes "load") (amount ∷ start ∷ []) [] [] [] is in
    absurd (omega (arith, one))
only_load amount start none (Serve folder socket uid connections) is =
    let one = marked (Serve folder socket uid connections) (codes "load") (amount ∷ start ∷ []) [] [] [] is in
    absurd (omega (arith, one))
only_load amount start none (ServeUntilEof folder socket uid connections) is =
    let one = marked (ServeUntilEof folder socket uid connections) (codes "load") (amount ∷ start ∷ []) [] [] [] is in
    absurd (omega (arith, one))
only_load amount start none (Load items seed) is =
    none items seed (subst (IsNumber 32 items) (ap (λ l. get_or l 0 []) (sym is.two)) is.number) is.some is.fits
    (subst (IsNumber 64 seed) (ap (λ l. get_or l 1 []) (sym is.two)) is.seeded)
only_load amount start none (Check folder password) is =
    let one = marked (Check folder password) (codes "load") (amount ∷ start ∷ []) [] [] [] is in
    absurd (omega (arith, one))

pub no_amount : (amount start : List ℕ) → IsNoNumber 32 amount → Answers None (codes "load") (amount ∷ start ∷ []) [] [] []
no_amount amount start none = only_load amount start (λ items seed is some fits seeded. none items is)

pub amount_off : (amount start : List ℕ) (number : ℕ) → IsNumber 32 number amount → (0 < number → number ≤ 1000 → ⊥) → Answers None (codes "load") (amount ∷ start ∷ []) [] [] []
amount_off amount start number is off = only_load amount start (λ items seed also some fits seeded.
    let same : items ≡ number = one_short items number amount also is in
    off (omega (arith, same, some)) (omega (arith, same, fits)))

pub no_start : (amount start : List ℕ) → IsNoNumber 64 start → Answers None (codes "load") (amount ∷ start ∷ []) [] [] []
no_start amount start none = only_load amount start (λ items seed is some fits seeded. none seed seeded)

-- ---- check

only_check : (o u c : Words) (f : Flags)
    → ((folder : List ℕ) (given : Bool) → o ≡ folder ∷ [] → u ≡ [] → c ≡ [] → HasFlag Password given f → ⊥)
    → (line : CommandLine) → IsCommand line (codes "check") o u c f → ⊥
only_check o u c f none (Stdio folder uid) is = let one : 104 ≡ 116 = ap (λ l. get_or l 1 0) is.named in absurd (omega (arith, one))
only_check o u c f none (Serve folder socket uid connections) is = let one : 104 ≡ 101 = ap (λ l. get_or l 1 0) is.named in absurd (omega (arith, one))
only_check o u c f none (ServeUntilEof folder socket uid connections) is = let one : 104 ≡ 101 = ap (λ l. get_or l 1 0) is.named in absurd (omega (arith, one))
only_check o u c f none (Load items seed) is = let one : 104 ≡ 111 = ap (λ l. get_or l 1 0) is.named in absurd (omega (arith, one))
only_check o u c f none (Check folder password) is = none folder password is.one is.no_uid is.no_connections is.flagged

-- there isn't one operand
pub not_single : (o u c : Words) (f : Flags) → (length o ≡ 1 → ⊥) → Answers None (codes "check") o u c f
not_single o u c f other = only_check o u c f (λ folder given one uids counts flagged. other (ap length one))

-- there is an option
pub with_value : (o u c : Words) (f : Flags) → ((u ≡ []) × (c ≡ []) → ⊥) → Answers None (codes "check") o u c f
with_value o u c f some = only_check o u c f (λ folder given one uids counts flagged. some (uids, counts))

-- the flag is another command's
pub no_password : (o u c : Words) (f : Flags) → IsNoFlag Password f → Answers None (codes "check") o u c f
no_password o u c f none = only_check o u c f (λ folder given one uids counts flagged. none given flagged)

pub is_check : (folder : List ℕ) (given : Bool) (o u c : Words) (f : Flags) → o ≡ folder ∷ [] → (u ≡ []) × (c ≡ []) → HasFlag Password given f
    → IsCommand (Check folder given) (codes "check") o u c f
is_check folder given o u c f one bare flagged = record { named = refl; one = one; no_uid = bare.0; no_connections = bare.1; flagged = flagged }

pub has_check : (folder : List ℕ) (given : Bool) (o u c : Words) (f : Flags) → o ≡ folder ∷ [] → (u ≡ []) × (c ≡ []) → HasFlag Password given f
    → HasCommand (codes "check") o u c f
has_check folder given o u c f one bare flagged = (Check folder given, is_check folder given o u c f one bare flagged)

-- ---- whole command lines

-- at an error, a fact that is there anyway
pub on_err : {T E : Type 0} {P : Type 0} (r : Result T E) → P → OnErr r P
on_err (Ok value) is = tt
on_err (Err error) is = is

-- no row has more
one_uid_most : (line : CommandLine) (name : List ℕ) (o u c : Words) (f : Flags) → IsCommand line name o u c f → length u ≤ 1
one_uid_most (Stdio folder uid) name o u c f is = let none : length u ≡ 0 = ap length is.no_uid in omega (arith, none)
one_uid_most (Serve folder socket uid connections) name o u c f is = let one : length u ≡ 1 = ap length is.one_uid in omega (arith, one)
one_uid_most (ServeUntilEof folder socket uid connections) name o u c f is = let one : length u ≡ 1 = ap length is.one_uid in omega (arith, one)
one_uid_most (Load items seed) name o u c f is = let none : length u ≡ 0 = ap length is.no_uid in omega (arith, none)
one_uid_most (Check folder password) name o u c f is = let none : length u ≡ 0 = ap length is.no_uid in omega (arith, none)

one_count_most : (line : CommandLine) (name : List ℕ) (o u c : Words) (f : Flags) → IsCommand line name o u c f → length c ≤ 1
one_count_most (Stdio folder uid) name o u c f is = let none : length c ≡ 0 = ap length is.no_connections in omega (arith, none)
one_count_most (Serve folder socket uid connections) name o u c f is = count_fits connections c is.counted
one_count_most (ServeUntilEof folder socket uid connections) name o u c f is = count_fits connections c is.counted
one_count_most (Load items seed) name o u c f is = let none : length c ≡ 0 = ap length is.no_connections in omega (arith, none)
one_count_most (Check folder password) name o u c f is = let none : length c ≡ 0 = ap length is.no_connections in omega (arith, none)

one_flag_most : (line : CommandLine) (name : List ℕ) (o u c : Words) (f : Flags) → IsCommand line name o u c f → length f ≤ 1
one_flag_most (Stdio folder uid) name o u c f is = let none : length f ≡ 0 = ap length is.no_flag in omega (arith, none)
one_flag_most (Serve folder socket uid connections) name o u c f is = flag_fits UntilEof false f is.flagged
one_flag_most (ServeUntilEof folder socket uid connections) name o u c f is = flag_fits UntilEof true f is.flagged
one_flag_most (Load items seed) name o u c f is = let none : length f ≡ 0 = ap length is.no_flag in omega (arith, none)
one_flag_most (Check folder password) name o u c f is = flag_fits Password password f is.flagged

-- there are no words
pub no_words : (words : Words) → length words ≡ 0 → IsNoCommandLine words
no_words words none = λ line is. let some : length words ≡ length (is.name ∷ is.rest) = ap length is.begins in omega (arith, none, some)

-- the words after the name are no arguments
pub no_arguments : (words rest : Words) (name : List ℕ) → words ≡ name ∷ rest → FindsNone rest → IsNoCommandLine words
no_arguments words rest name begins none = λ line is.
    let few : length is.operands ≤ 2 = few_operands line is.name is.operands is.uids is.connections is.flags is.command in
    none is.operands is.uids is.connections is.flags few (one_uid_most line is.name is.operands is.uids is.connections is.flags is.command)
    (one_count_most line is.name is.operands is.uids is.connections is.flags is.command) (one_flag_most line is.name is.operands is.uids is.connections is.flags is.command)
    (subst (λ w. HasArguments w is.operands is.uids is.connections is.flags) (ap (drop 1) (sym is.begins ∙ begins)) is.has)

-- the command of the line, of the name and the arguments that the words have
the_command : (words rest o u c : Words) (f : Flags) (name : List ℕ) (line : CommandLine) → words ≡ name ∷ rest → HasArguments rest o u c f → IsCommandLine line words → IsCommand line name o u c f
the_command words rest o u c f name line begins has is =
    let names : is.name ≡ name = ap (λ l. get_or l 0 []) (sym is.begins ∙ begins) in
    let rests : is.rest ≡ rest = ap (drop 1) (sym is.begins ∙ begins) in
    let same = one_reading rest is.operands is.uids is.connections o u c is.flags f (subst (λ w. HasArguments w is.operands is.uids is.connections is.flags) rests is.has) has in
    rw (names, same.operands_are, same.uids_are, same.connections_are, same.flags_are) at is.command

pub answered : (words rest o u c : Words) (f : Flags) (name : List ℕ) (answer : Option CommandLine) → words ≡ name ∷ rest → HasArguments rest o u c f → Answers answer name o u c f
    → MatchOption answer (IsNoCommandLine words) (λ line. IsCommandLine line words)
answered words rest o u c f name None begins has none = λ line is. none line (the_command words rest o u c f name line begins has is)
answered words rest o u c f name (Some line) begins has is =
    record { name = name; rest = rest; operands = o; uids = u; connections = c; flags = f; begins = begins; has = has; command = is }

pub has_line : (words rest o u c : Words) (f : Flags) (name : List ℕ) → words ≡ name ∷ rest → HasArguments rest o u c f → HasCommand name o u c f → HasCommandLine words
has_line words rest o u c f name begins has is =
    (is.0, record { name = name; rest = rest; operands = o; uids = u; connections = c; flags = f; begins = begins; has = has; command = is.1 })

-- ---- one command

apart : (one other : CommandLine) (name : List ℕ) (o u c : Words) (f : Flags) → IsCommand one name o u c f → IsCommand other name o u c f → mark one ≡ mark other
apart one other name o u c f is also = sym (marked one name o u c f is) ∙ marked other name o u c f also

same_serve : (given : Bool) (folder socket other second : List ℕ) (uid also : ℕ) (count number : Option ℕ) (name : List ℕ) (o u c : Words) (f : Flags)
    → IsServe given folder socket uid count name o u c f → IsServe given other second also number name o u c f
    → (folder ≡ other) × (socket ≡ second) × (uid ≡ also) × (count ≡ number)
same_serve given folder socket other second uid also count number name o u c f is too =
    let both : folder ∷ socket ∷ [] ≡ other ∷ second ∷ [] = sym is.two ∙ too.two in (
      ap (λ l. get_or l 0 []) both,
      ap (λ l. get_or l 1 []) both,
      one_short uid also too.user (subst (IsNumber 32 uid) (ap (λ l. get_or l 0 []) (sym is.one_uid ∙ too.one_uid)) is.number) too.number,
      one_count count number c is.counted too.counted,
    )

one_command : (one other : CommandLine) (name : List ℕ) (o u c : Words) (f : Flags) → IsCommand one name o u c f → IsCommand other name o u c f → one ≡ other
one_command (Stdio folder uid) (Stdio other also) name o u c f is too =
    let both : folder ∷ is.user ∷ [] ≡ other ∷ too.user ∷ [] = sym is.two ∙ too.two in
    let folders : folder ≡ other = ap (λ l. get_or l 0 []) both in
    let uids : uid ≡ also = one_short uid also too.user (subst (IsNumber 32 uid) (ap (λ l. get_or l 1 []) both) is.number) too.number in
    (λ i. Stdio (folders i) (uids i))
one_command (Serve folder socket uid count) (Serve other second also number) name o u c f is too =
    let same = same_serve false folder socket other second uid also count number name o u c f is too in
    (λ i. Serve (same.0 i) (same.1 i) (same.2 i) (same.3 i))
one_command (ServeUntilEof folder socket uid count) (ServeUntilEof other second also number) name o u c f is too =
    let same = same_serve true folder socket other second uid also count number name o u c f is too in
    (λ i. ServeUntilEof (same.0 i) (same.1 i) (same.2 i) (same.3 i))
one_command (Load items seed) (Load others also) name o u c f is too =
    let both : is.amount ∷ is.start ∷ [] ≡ too.amount ∷ too.start ∷ [] = sym is.two ∙ too.two in
    let amounts : items ≡ others = one_short items others too.amount (subst (IsNumber 32 items) (ap (λ l. get_or l 0 []) both) is.number) too.number in
    let seeds : seed ≡ also = one_number seed also too.start (subst (IsNumber 64 seed) (ap (λ l. get_or l 1 []) both) is.seeded) too.seeded in
    (λ i. Load (amounts i) (seeds i))
one_command (Check folder password) (Check other also) name o u c f is too =
    let folders : folder ≡ other = ap (λ l. get_or l 0 []) (sym is.one ∙ too.one) in
    let flags : password ≡ also = one_flag Password password also f is.flagged too.flagged in
    (λ i. Check (folders i) (flags i))
one_command (Stdio folder uid) (Serve other second also number) name o u c f is too =
    let one = apart (Stdio folder uid) (Serve other second also number) name o u c f is too in
    absurd (omega (arith, one))
one_command (Stdio folder uid) (ServeUntilEof other second also number) name o u c f is too =
    let one = apart (Stdio folder uid) (ServeUntilEof other second also number) name o u c f is too in
    absurd (omega (arith, one))
one_command (Stdio folder uid) (Load others also) name o u c f is too =
    let one = apart (Stdio folder uid) (Load others also) name o u c f is too in
    absurd (omega (arith, one))
one_command (Stdio folder uid) (Check other also) name o u c f is too =
    let one = apart (Stdio folder uid) (Check other also) name o u c f is too in
    absurd (omega (arith, one))
one_command (Serve folder socket uid count) (Stdio other also) name o u c f is too =
    let one = apart (Serve folder socket uid count) (Stdio other also) name o u c f is too in
    absurd (omega (arith, one))
one_command (Serve folder socket uid count) (ServeUntilEof other second also number) name o u c f is too =
    let one = apart (Serve folder socket uid count) (ServeUntilEof other second also number) name o u c f is too in
    absurd (omega (arith, one))
one_command (Serve folder socket uid count) (Load others also) name o u c f is too =
    let one = apart (Serve folder socket uid count) (Load others also) name o u c f is too in
    absurd (omega (arith, one))
one_command (Serve folder socket uid count) (Check other also) name o u c f is too =
    let one = apart (Serve folder socket uid count) (Check other also) name o u c f is too in
    absurd (omega (arith, one))
one_command (ServeUntilEof folder socket uid count) (Stdio other also) name o u c f is too =
    let one = apart (ServeUntilEof folder socket uid count) (Stdio other also) name o u c f is too in
    absurd (omega (arith, one))
one_command (ServeUntilEof folder socket uid count) (Serve other second also number) name o u c f is too =
    let one = apart (ServeUntilEof folder socket uid count) (Serve other second also number) name o u c f is too in
    absurd (omega (arith, one))
one_command (ServeUntilEof folder socket uid count) (Load others also) name o u c f is too =
    let one = apart (ServeUntilEof folder socket uid count) (Load others also) name o u c f is too in
    absurd (omega (arith, one))
one_command (ServeUntilEof folder socket uid count) (Check other also) name o u c f is too =
    let one = apart (ServeUntilEof folder socket uid count) (Check other also) name o u c f is too in
    absurd (omega (arith, one))
one_command (Load items seed) (Stdio other also) name o u c f is too =
    let one = apart (Load items seed) (Stdio other also) name o u c f is too in
    absurd (omega (arith, one))
one_command (Load items seed) (Serve other second also number) name o u c f is too =
    let one = apart (Load items seed) (Serve other second also number) name o u c f is too in
    absurd (omega (arith, one))
one_command (Load items seed) (ServeUntilEof other second also number) name o u c f is too =
    let one = apart (Load items seed) (ServeUntilEof other second also number) name o u c f is too in
    absurd (omega (arith, one))
one_command (Load items seed) (Check other also) name o u c f is too =
    let one = apart (Load items seed) (Check other also) name o u c f is too in
    absurd (omega (arith, one))
one_command (Check folder password) (Stdio other also) name o u c f is too =
    let one = apart (Check folder password) (Stdio other also) name o u c f is too in
    absurd (omega (arith, one))
one_command (Check folder password) (Serve other second also number) name o u c f is too =
    let one = apart (Check folder password) (Serve other second also number) name o u c f is too in
    absurd (omega (arith, one))
one_command (Check folder password) (ServeUntilEof other second also number) name o u c f is too =
    let one = apart (Check folder password) (ServeUntilEof other second also number) name o u c f is too in
    absurd (omega (arith, one))
one_command (Check folder password) (Load others also) name o u c f is too =
    let one = apart (Check folder password) (Load others also) name o u c f is too in
    absurd (omega (arith, one))

pub one_line : (one other : CommandLine) (words : Words) → IsCommandLine one words → IsCommandLine other words → one ≡ other
one_line one other words is also =
    one_command one other also.name also.operands also.uids also.connections also.flags
    (the_command words also.rest also.operands also.uids also.connections also.flags also.name one also.begins also.has is) also.command
