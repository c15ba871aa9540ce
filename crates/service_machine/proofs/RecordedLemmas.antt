-- A derived key as it is recorded: what it led to is the step of its event.
use Rattle.std.proofs.Common.{◌≡◌, ℕ, ◌^◌, ◌<◌, Bool, true, IsTrue, List, [], ap, ◌∙◌}
use Rattle.kr_outside.specs.RenameDisk.{Image}
use Rattle.keyring_text.specs.Fields.{IsBytes}
use Rattle.service_answers.specs.service_tables.specs.Connections.{AreDistinct, handed, has}
use Rattle.service_answers.specs.service_tables.specs.Disk.{DiskState}
use Rattle.service_answers.specs.service_tables.specs.State.{State}
use Rattle.service_answers.specs.service_tables.specs.declared.fate.Fate.{Fate}
use Rattle.service_answers.specs.declared.derived_key.Settled.{Settled}
use Rattle.service_answers.specs.service_events.specs.declared.event.BroughtKey.{BroughtKey}
use Rattle.service_answers.specs.service_events.specs.declared.event.Derivation.{Derivation}
use Rattle.service_answers.specs.service_events.specs.declared.event.Event.TheVariants as event
use Rattle.service_answers.specs.service_events.specs.Derivation.{derived}
use Rattle.service_answers.specs.service_events.specs.Fates.{AreFaultless, is_steady}
use Rattle.service_answers.specs.service_events.specs.Run.{asked, run}
use Rattle.service_answers.specs.service_events.specs.Step.{AreByteFiles, Fits, IsSalt, brought_derived, step, terms_of, with_rows}
use Rattle.service_answers.specs.service_events.specs.Stored.{StoresEvent}
use Rattle.service_answers.specs.Settled.{Settles, settled_fates}
use Rattle.service_answers.specs.service_calls.proofs.LeadsLemmas.{sends-handed}
use Rattle.service_machine.proofs.SteadyLemmas.{stores-faultless, stores-steady}

-- a key as it is recorded: what was brought, with these parts of the key, and how what it led to ended
abbrev pub came_with : BroughtKey → List ℕ → List ℕ → ℕ → List Fate → Derivation
came_with brought password salt iterations fates = record {
  conn = brought.conn;
  prompt = brought.done.prompt;
  round = brought.done.round;
  password = password;
  salt = salt;
  iterations = iterations;
  now = brought.now;
  fates = fates;
}

-- a key that led to this, as it is recorded
abbrev pub came_of : BroughtKey → Settled → Derivation
came_of brought settled = let key = brought.done.key in came_with brought key.password key.salt key.iterations (settled_fates settled)

-- what is recorded has the parts of the key that was brought, and its fates once they are known
pub came-is : (brought : BroughtKey) (settled : Settled) (password salt : List ℕ) (iterations : ℕ) (before fates : List Fate) (boxed ended : Derivation)
    → boxed ≡ came_with brought password salt iterations before → ended ≡ record boxed { fates = fates }
    → password ≡ brought.done.key.password → salt ≡ brought.done.key.salt → iterations ≡ brought.done.key.iterations → fates ≡ settled_fates settled
    → ended ≡ came_of brought settled
came-is brought settled password salt iterations before fates boxed ended is with one two three four =
    with ∙ ap (λ (came : Derivation). record came { fates = fates }) is ∙ (λ i. came_with brought (one i) (two i) (three i) (four i))

module _ {F S : Type 0} (folder_honest folder_steady : F → Bool) (folder_faults : F → ℕ) (images : F → List ℕ → Image) (folder_leaves : F → List ℕ → Image → Type 0) (names_made : F → List (List ℕ)) (is_honest slot_steady : S → Bool) (faults moment : S → ℕ) (left_since : S → ℕ → Image → Type 0) (may_leave : S → Image → Type 0)
    (brought : BroughtKey) (settled : Settled) (old mid : State) (disk disk' : DiskState F S) where
  abbrev its : Derivation
  its = came_of brought settled

  module _ (leads : Settles folder_honest folder_steady folder_faults images folder_leaves names_made is_honest slot_steady faults moment left_since may_leave its.conn (brought_derived its)
      (derived its.prompt its.round (terms_of its) (asked its.conn (brought_derived its) old)) old mid disk disk' settled) where
    pub key-stepped : AreDistinct old.connections.rows → (final : State) → final ≡ with_rows (handed settled.done.sends mid.connections.rows) mid → final ≡ step old (event.Derived its)
    key-stepped apart final delivers =
        let plan = derived its.prompt its.round (terms_of its) (asked its.conn (brought_derived its) old) in
        let ran = run its.conn (brought_derived its) plan (settled_fates settled) old in
        delivers
        ∙ (λ i. with_rows (handed (leads.sends i) (leads.state i).connections.rows) (leads.state i))
        ∙ ap (λ rows. with_rows rows ran.state) (sends-handed its.conn (brought_derived its) plan (settled_fates settled) old [] apart)

    pub key-fits : has its.conn old.connections.rows ≡ true → its.now < 2 ^ 64 → its.round < 2 ^ 64 → IsBytes its.password → IsSalt its.salt → its.iterations < 2 ^ 32
        → AreByteFiles old.collections → Fits old (event.Derived its)
    key-fits there small round password salt iterations files = (
      there,
      record { moment = small; round = round; password = password; salt = salt; iterations = iterations; files = files; fates = leads.fates },
    )

    pub key-stores : StoresEvent folder_honest folder_steady folder_faults images folder_leaves names_made is_honest slot_steady faults moment left_since may_leave (event.Derived its) old disk disk'
    key-stores = leads.disk

    pub key-faultless : IsTrue (is_steady folder_steady slot_steady disk) → AreFaultless its.fates
    key-faultless steady =
        stores-faultless folder_honest folder_steady folder_faults images folder_leaves names_made is_honest slot_steady faults moment left_since may_leave its.conn (brought_derived its)
        (derived its.prompt its.round (terms_of its) (asked its.conn (brought_derived its) old)) (settled_fates settled) old disk disk' leads.fates leads.disk steady

    -- the disk is as steady as before
    pub key-steady : is_steady folder_steady slot_steady disk' ≡ is_steady folder_steady slot_steady disk
    key-steady =
        stores-steady folder_honest folder_steady folder_faults images folder_leaves names_made is_honest slot_steady faults moment left_since may_leave its.conn (brought_derived its)
        (derived its.prompt its.round (terms_of its) (asked its.conn (brought_derived its) old)) (settled_fates settled) old disk disk' leads.disk
