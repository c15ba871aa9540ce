-- A row of the table of calls is a plan: what it may ask of the state, what it answers, and what it may change. A
-- row sees only the answers to its questions, and changes something only by these changes, so what is true of every question and
-- of every kind of change is true of all rows. No question shows the value of a secret, a password or a key: a plan says whose secret is
-- given, and the password that an event brings is used where a collection is opened, made or stored under a new key, and nowhere else. What a row answers by itself has
-- no room for a secret.
use Rattle.std.specs.Prelude.{ℕ, Bool, List, [], ◌++◌, Option}
use Rattle.kr_base.specs.declared.ids.ItemId.{ItemId}
use Rattle.kr_base.specs.declared.ids.PromptId.{PromptId}
use Rattle.kr_base.specs.declared.ids.SessionId.{SessionId}
use Rattle.kr_names.specs.declared.object_name.ObjectName.{ObjectName}
use Rattle.prompt_state.specs.declared.row.PromptKind.{PromptKind}
use Rattle.service_prompts.specs.secret_calls.specs.declared.out.ErrorName.{ErrorName}
use Rattle.service_disk.specs.declared.opening.Opening.{Opening}
use Rattle.service_prompts.specs.service_tables.specs.declared.fate.StoreFate.{StoreFate}
use Rattle.service_prompts.specs.service_tables.specs.Questions.{AliasQuestions, CollectionQuestions, PromptQuestions}
use Rattle.service_prompts.specs.service_tables.specs.Storing.{Edit}
use Rattle.service_prompts.specs.collection_store.specs.declared.change.Changed.{Changed}
use Rattle.service_events.specs.PublicBody as public
use Rattle.service_events.specs.PublicBody.{PublicBody}

-- what a row may ask of the sessions, about its caller
pub record SessionQuestions : Type 0 where
  -- whether the caller owns the session
  pub owns : SessionId → Bool
  -- whether the caller can open no further session
  pub is_full : Bool
  -- the number that the next session gets
  pub next : ℕ

-- what a key is derived with besides its password
pub record KeyTerms : Type 0 where
  pub salt : List ℕ
  pub iterations : ℕ

-- what a row may ask of the files of the collections
pub record FileQuestions : Type 0 where
  -- how an attempt ends to unlock the collection of the stem with the key of these terms and of the password that the event brings
  pub opening : KeyTerms → List ℕ → Opening
  -- the stem that a new collection of this label gets
  pub stem_for : List ℕ → List ℕ
  -- whether the file of a new collection of this label, with such a key, keeps within the limits of one file and of all files together
  pub has_room : KeyTerms → List ℕ → Bool
  -- whether the collection of the stem is unlocked, and its file under such a key keeps within these limits
  pub can_rekey : KeyTerms → List ℕ → Bool

-- what a row may ask: a record for each table, one for the files, and what can be stored
pub record Questions : Type 0 where
  pub sessions : SessionQuestions
  pub collections : CollectionQuestions
  pub aliases : AliasQuestions
  pub prompts : PromptQuestions
  pub files : FileQuestions
  -- what an edit of an unlocked collection would do, if the edit keeps within all limits
  pub storable : List ℕ → Edit → Option Changed

-- what a row may ask of the disk
pub data Demand : Type 0 where
  -- the content of the collection of the stem is edited, and stored
  Store : (stem : List ℕ) → (edit : Edit) → Demand
  -- the file of the collection of the stem is removed, and the collection with it
  Erase : (stem : List ℕ) → Demand
  -- the alias of the name is set to the stem, or removed if there is none, and the file of the aliases is stored
  Set_alias : (alias : List ℕ) → (stem : Option (List ℕ)) → Demand
  -- a collection of this label is made under the stem, and stored with the key of these terms and of the password that the event brings
  Make : (stem : List ℕ) → (label : List ℕ) → (terms : KeyTerms) → Demand
  -- the collection of the stem is stored under the key of these terms and of the password that the event brings
  Rekey : (stem : List ℕ) → (terms : KeyTerms) → Demand

-- a file that has to be known before a row continues
pub data Reading : Type 0 where
  -- the file of the aliases
  Aliases_file : Reading
  -- the file of the collection of the stem
  Collection_file : (stem : List ℕ) → Reading

-- what a row may change
pub data Change : Type 0 where
  -- the caller gets the next session
  Open_session : Change
  -- the caller's session ends
  Close_session : (session : SessionId) → Change
  -- the collection of the stem is locked: its key and its items are dropped
  Lock_collection : (stem : List ℕ) → Change
  -- the caller gets the next prompt, which isn't asked yet
  Begin_prompt : (kind : PromptKind) → Change
  -- the prompt is asked in its next round; the agent is sent Ask, if there is one
  Ask_prompt : (prompt : PromptId) → Change
  -- the key for the prompt is being derived, in the round in which it was asked
  Derive_key : (prompt : PromptId) → (round : ℕ) → Change
  -- the prompt has one more wrong answer
  Count_wrong : (prompt : PromptId) → Change
  -- the prompt has no wrong answers
  Clear_wrong : (prompt : PromptId) → Change
  -- The prompt passes over its first targets that are gone or done, and is asked in its next round for the one that is left; if none is,
  -- it ends completed. One that changes the password of a collection that isn't unlocked ends dismissed. The agent is sent Ask, if there is one, or
  -- the owner Completed.
  Go_on : (prompt : PromptId) → Change
  -- the prompt ends, dismissed or not, and with the collection that it created or whose password it changed, if it did; its owner is sent Completed
  End_prompt : (prompt : PromptId) → (dismissed : Bool) → (created : Option (List ℕ)) → Change
  -- the caller is the agent; it is sent Ask for each prompt that is asked
  Become_agent : Change
  -- there is no agent; a prompt whose key is being derived is asked in its next round
  Leave_agent : Change

-- whose secrets are given to a session
pub data Gift : Type 0 where
  -- the secret of one item
  Secret_of : (session : SessionId) → (stem : List ℕ) → (item : ItemId) → Gift
  -- those of several items, each with the path of its item
  Secrets_of : (session : SessionId) → (items : List ObjectName) → Gift

-- what a row answers
pub data Answer : Type 0 where
  -- a return with these values, which have no secret
  Returns : (body : PublicBody) → Answer
  -- a return with secrets, as they are before the plan's changes; only if the caller owns the session, and only of collections that are unlocked
  Gives : (gift : Gift) → Answer
  -- an error
  Refuses : (name : ErrorName) → Answer

-- a plan, by its first step
pub data Plan : Type 0 where
  -- it answers, and makes these changes
  Ends : (answer : Answer) → (changes : List Change) → Plan
  -- it asks this of the disk, and continues by how that ended
  Asks : (demand : Demand) → (next : StoreFate → Plan) → Plan
  -- A file that is in doubt is read again. It continues by what it asks of the state then, or as `unread` if the file couldn't be read.
  Resolves : (reading : Reading) → (unread : Plan) → (next : Questions → Plan) → Plan
  -- The collection of the stem is unlocked, if the key of these terms and of the password that the event brings opens it, and it continues.
  Opens : (stem : List ℕ) → (terms : KeyTerms) → (next : Plan) → Plan

-- an error, with nothing changed
abbrev pub refused : ErrorName → Plan
refused name = Ends (Refuses name) []

-- a return
abbrev pub answered : PublicBody → List Change → Plan
answered body changes = Ends (Returns body) changes

-- a return with secrets
abbrev pub given : Gift → Plan
given gift = Ends (Gives gift) []

-- a plan whose answer is dropped, and these changes after it
abbrev pub followed : List Change → Plan → Plan
followed more (Ends answer changes) = answered public.Empty (changes ++ more)
followed more (Asks demand next) = Asks demand (λ ended. followed more (next ended))
followed more (Resolves reading unread next) = Resolves reading (followed more unread) (λ asked. followed more (next asked))
followed more (Opens stem terms next) = Opens stem terms (followed more next)
