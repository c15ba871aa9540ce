-- Names and paths: the object path of each object (docs/SERVICE.md, "Names and paths").
use Rattle.std.specs.Prelude.{◌≡◌, ◌≢◌, ℕ, ◌^◌, ◌<◌, ◌≤◌, IsTrue, List, ◌∷◌, ◌++◌, length, All, codes, decimal}
use Rattle.kr_base.specs.Stem.{IsStem}
use Rattle.kr_names.specs.Escape.{is_path_byte, escaped}
use Rattle.kr_names.specs.declared.object_name.ObjectName.{ObjectName}
use Rattle.kr_names.specs.declared.object_name.ObjectName.TheVariants.{Nothing, Service, Agent, Collection, Item, Alias, Session, Prompt}

-- the most bytes of the name of an alias
abbrev pub alias_limit : ℕ
alias_limit = 64

-- the name of an alias: 1 of these bytes or more, within the limit
pub record IsAliasName (name : List ℕ) : Type 0 where
  pub some : 0 < length name
  pub fits : length name ≤ alias_limit
  pub bytes : All (λ byte. IsTrue (is_path_byte byte)) name

-- the path of the service, below which the others are, and that of the agent
unfoldable pub service : List ℕ
service = codes "/org/freedesktop/secrets"

unfoldable pub agent : List ℕ
agent = codes "/org/freedesktop/secrets/agent"

-- what comes before a stem, an alias's name, a session's number, a prompt's number
unfoldable pub collections : List ℕ
collections = codes "/org/freedesktop/secrets/collection/"

unfoldable pub aliases : List ℕ
aliases = codes "/org/freedesktop/secrets/aliases/"

unfoldable pub sessions : List ℕ
sessions = codes "/org/freedesktop/secrets/session/s"

unfoldable pub prompts : List ℕ
prompts = codes "/org/freedesktop/secrets/prompt/p"

-- the path of each name
abbrev pub path_text : ObjectName → List ℕ
path_text Nothing = codes "/"
path_text Service = service
path_text Agent = agent
path_text (Collection stem) = collections ++ escaped stem
path_text (Item stem item) = collections ++ (escaped stem ++ 47 ∷ decimal item.0)
path_text (Alias name) = aliases ++ name
path_text (Session session) = sessions ++ decimal session.0
path_text (Prompt prompt) = prompts ++ decimal prompt.0

-- what a value must meet beyond its type to have a path
abbrev pub HasPath : ObjectName → Type 0
HasPath (Alias name) = IsAliasName name
HasPath (Session session) = 0 < session.0
HasPath (Prompt prompt) = 0 < prompt.0
HasPath _ = Unit {0}

-- all that a name must meet to have a path
abbrev pub IsName : ObjectName → Type 0
IsName (Collection stem) = IsStem stem
IsName (Item stem item) = IsStem stem × (item.0 < 2 ^ 32)
IsName (Alias name) = IsAliasName name
IsName (Session session) = (0 < session.0) × (session.0 < 2 ^ 64)
IsName (Prompt prompt) = (0 < prompt.0) × (prompt.0 < 2 ^ 64)
IsName _ = Unit {0}

-- the path is that of the name
pub record IsPathOf (name : ObjectName) (path : List ℕ) : Type 0 where
  pub named : IsName name
  pub spelled : path ≡ path_text name

-- the text is the decimal digits of the number, without a sign or a leading zero
pub record IsNumber (number : ℕ) (text : List ℕ) : Type 0 where
  pub fits : number < 2 ^ 64
  pub digits : text ≡ decimal number

-- the path is this prefix, followed by the digits of a number that is at least 1
pub record IsNumbered (front path : List ℕ) (number : ℕ) : Type 0 where
  pub some : 0 < number
  pub fits : number < 2 ^ 64
  pub spelled : path ≡ front ++ decimal number

-- the text has its first slash between these two parts
pub record IsCut (text front back : List ℕ) : Type 0 where
  pub spelled : text ≡ front ++ 47 ∷ back
  pub first : All (λ byte. byte ≢ 47) front

-- the path is none of the three without parts
pub record IsNoWhole (path : List ℕ) : Type 0 where
  pub not_nothing : path ≢ codes "/"
  pub not_service : path ≢ service
  pub not_agent : path ≢ agent
