-- Words are one command line at most, so what they name is one folder and one user.
use Rattle.std.proofs.Common.{◌≡◌, ℕ, ◌≤◌, Bool, true, false, List, Option, subst}
use Rattle.std.specs.Prelude.{◌↔◌, IsTrue}
use Rattle.command_words.specs.CommandLines.{IsCommandLine}
use Rattle.command_words.specs.declared.command_line.CommandLine.{CommandLine}
use Rattle.command_words.specs.declared.command_line.CommandLine.TheVariants.{Stdio, Serve, ServeUntilEof, Load, Check}
use Rattle.command_words.proofs.CommandLemmas.{one_line}
use Rattle.keyring_program.specs.Commands.{AsksForService, ServesFolder, IsUntilEof, is_until_eof, serve_line}

-- the folder and the user of `stdio`
pub one_stdio : (words : List (List ℕ)) (folder other : List ℕ) (uid user : ℕ) → IsCommandLine (Stdio folder uid) words → IsCommandLine (Stdio other user) words → (folder ≡ other) × (uid ≡ user)
one_stdio words folder other uid user one two =
    let same : Stdio folder uid ≡ Stdio other user = one_line (Stdio folder uid) (Stdio other user) words one two in
    (cc, cc)

-- the words are one with `--until-eof` exactly if it is one
pub until_eof : (words : List (List ℕ)) (line : CommandLine) → IsCommandLine line words → IsTrue (is_until_eof line) ↔ IsUntilEof words
until_eof words line is = (λ yes. (line, is, yes), λ has. subst (λ l. IsTrue (is_until_eof l)) (one_line has.0 line words has.1 is) has.2)

-- the items and the seed of `load`
pub one_load : (words : List (List ℕ)) (items few number seed : ℕ) → IsCommandLine (Load items number) words → IsCommandLine (Load few seed) words → (items ≡ few) × (number ≡ seed)
one_load words items few number seed one two =
    let same : Load items number ≡ Load few seed = one_line (Load items number) (Load few seed) words one two in
    (cc, cc)

-- there are at most 1,000 items
pub load-few : (words : List (List ℕ)) (items number : ℕ) → IsCommandLine (Load items number) words → items ≤ 1000
load-few words items number is = is.command.fits

-- the folder of `check`, and whether it asks for a password
pub one_check : (words : List (List ℕ)) (folder other : List ℕ) (is_asked asks : Bool) → IsCommandLine (Check folder is_asked) words → IsCommandLine (Check other asks) words → (folder ≡ other) × (is_asked ≡ asks)
one_check words folder other is_asked asks one two =
    let same : Check folder is_asked ≡ Check other asks = one_line (Check folder is_asked) (Check other asks) words one two in
    (cc, cc)

-- the folder, the socket, the user and the number of links of `serve`
pub one_serve : (words : List (List ℕ)) (given also : Bool) (folder other socket another : List ℕ) (uid user : ℕ) (most few : Option ℕ)
    → IsCommandLine (serve_line given folder socket uid most) words → IsCommandLine (serve_line also other another user few) words
    → (folder ≡ other) × (most ≡ few) × (uid ≡ user) × (socket ≡ another)
one_serve words true true folder other socket another uid user most few one two =
    let same : ServeUntilEof folder socket uid most ≡ ServeUntilEof other another user few = one_line (ServeUntilEof folder socket uid most) (ServeUntilEof other another user few) words one two in
    (cc, cc, cc, cc)
one_serve words false false folder other socket another uid user most few one two =
    let same : Serve folder socket uid most ≡ Serve other another user few = one_line (Serve folder socket uid most) (Serve other another user few) words one two in
    (cc, cc, cc, cc)
one_serve words true false folder other socket another uid user most few one two =
    let same : ServeUntilEof folder socket uid most ≡ Serve other another user few = one_line (ServeUntilEof folder socket uid most) (Serve other another user few) words one two in
    (cc, cc, cc, cc)
one_serve words false true folder other socket another uid user most few one two =
    let same : Serve folder socket uid most ≡ ServeUntilEof other another user few = one_line (Serve folder socket uid most) (ServeUntilEof other another user few) words one two in
    (cc, cc, cc, cc)

-- one command isn't another
pub serve_or_stdio : (words : List (List ℕ)) (given : Bool) (folder other socket : List ℕ) (uid user : ℕ) (most : Option ℕ) → IsCommandLine (serve_line given folder socket uid most) words → IsCommandLine (Stdio other user) words → ⊥
serve_or_stdio words true folder other socket uid user most one two =
    let same : ServeUntilEof folder socket uid most ≡ Stdio other user = one_line (ServeUntilEof folder socket uid most) (Stdio other user) words one two in
    cc
serve_or_stdio words false folder other socket uid user most one two =
    let same : Serve folder socket uid most ≡ Stdio other user = one_line (Serve folder socket uid most) (Stdio other user) words one two in
    cc

pub load_or_stdio : (words : List (List ℕ)) (folder : List ℕ) (items seed user : ℕ) → IsCommandLine (Load items seed) words → IsCommandLine (Stdio folder user) words → ⊥
load_or_stdio words folder items seed user one two =
    let same : Load items seed ≡ Stdio folder user = one_line (Load items seed) (Stdio folder user) words one two in
    cc

pub load_or_serve : (words : List (List ℕ)) (given : Bool) (folder socket : List ℕ) (items seed user : ℕ) (most : Option ℕ) → IsCommandLine (Load items seed) words → IsCommandLine (serve_line given folder socket user most) words → ⊥
load_or_serve words true folder socket items seed user most one two =
    let same : Load items seed ≡ ServeUntilEof folder socket user most = one_line (Load items seed) (ServeUntilEof folder socket user most) words one two in
    cc
load_or_serve words false folder socket items seed user most one two =
    let same : Load items seed ≡ Serve folder socket user most = one_line (Load items seed) (Serve folder socket user most) words one two in
    cc

pub check_or_stdio : (words : List (List ℕ)) (folder other : List ℕ) (is_asked : Bool) (user : ℕ) → IsCommandLine (Check folder is_asked) words → IsCommandLine (Stdio other user) words → ⊥
check_or_stdio words folder other is_asked user one two =
    let same : Check folder is_asked ≡ Stdio other user = one_line (Check folder is_asked) (Stdio other user) words one two in
    cc

pub check_or_serve : (words : List (List ℕ)) (given : Bool) (folder other socket : List ℕ) (is_asked : Bool) (user : ℕ) (most : Option ℕ) → IsCommandLine (Check folder is_asked) words → IsCommandLine (serve_line given other socket user most) words → ⊥
check_or_serve words true folder other socket is_asked user most one two =
    let same : Check folder is_asked ≡ ServeUntilEof other socket user most = one_line (Check folder is_asked) (ServeUntilEof other socket user most) words one two in
    cc
check_or_serve words false folder other socket is_asked user most one two =
    let same : Check folder is_asked ≡ Serve other socket user most = one_line (Check folder is_asked) (Serve other socket user most) words one two in
    cc

pub check_or_load : (words : List (List ℕ)) (folder : List ℕ) (is_asked : Bool) (items seed : ℕ) → IsCommandLine (Check folder is_asked) words → IsCommandLine (Load items seed) words → ⊥
check_or_load words folder is_asked items seed one two =
    let same : Check folder is_asked ≡ Load items seed = one_line (Check folder is_asked) (Load items seed) words one two in
    cc

-- a command that isn't one of a service
pub no_service : (words : List (List ℕ)) (line : CommandLine) → IsCommandLine line words → ¬ (ServesFolder line) → AsksForService words → ⊥
no_service words line is other has = other (subst ServesFolder (one_line has.0 line words has.1 is) has.2)
