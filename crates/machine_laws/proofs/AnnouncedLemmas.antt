-- What is sent to everyone announces a change: it is neither Ask nor Completed.
use Rattle.std.proofs.Common.{◌≡◌, true, false, cond, List, [], ◌∷◌, length, filter, Option, refl, sym, ap, ◌∙◌}
use Rattle.kr_base.specs.declared.ids.ConnId.{ConnId}
use Rattle.kr_base.specs.declared.ids.PromptId.{PromptId}
use Rattle.service_events.specs.secret_calls.specs.declared.out.Out.{Out}
use Rattle.service_events.specs.secret_calls.specs.declared.out.Out.TheVariants as out
use Rattle.service_events.specs.secret_calls.specs.declared.signal.Signal.{Signal}
use Rattle.service_events.specs.secret_calls.specs.declared.signal.Signal.TheVariants as signal
use Rattle.service_events.specs.service_tables.specs.Sent.{Sent}
use Rattle.service_events.proofs.AnnouncedLemmas.{AreAnnounced, IsChangeOut, IsOfChange}
use Rattle.machine_laws.specs.Announcing.{announces, is_announcement}
use Rattle.machine_laws.specs.Asks.{AreForAgent, is_ask, is_ask_signal}
use Rattle.machine_laws.specs.Completions.{completes, completions_in, is_completed}

-- ---- Completed

signal-incomplete : (p : PromptId) (it : Signal) → IsOfChange it → is_completed p it ≡ false
signal-incomplete p (signal.Ask prompt round kind label wrong) is = absurd is
signal-incomplete p (signal.Completed prompt dismissed completion) is = absurd is
signal-incomplete p (signal.CollectionCreated collection) is = refl
signal-incomplete p (signal.CollectionDeleted collection) is = refl
signal-incomplete p (signal.CollectionChanged collection) is = refl
signal-incomplete p (signal.ItemCreated collection item) is = refl
signal-incomplete p (signal.ItemDeleted collection item) is = refl
signal-incomplete p (signal.ItemChanged collection item) is = refl
signal-incomplete p (signal.PropertiesChanged object changed invalidated) is = refl

pub out-incomplete : (p : PromptId) (o : Out) → IsChangeOut o → completes p o ≡ false
out-incomplete p (out.Return serial body) is = absurd is
out-incomplete p (out.Error serial name) is = absurd is
out-incomplete p (out.Signal it) is = signal-incomplete p it is

pub announced-none : (p : PromptId) (said : List Sent) → AreAnnounced said → completions_in p said ≡ 0
announced-none p [] are = refl
announced-none p (one ∷ more) are =
    let others = filter (λ (other : Sent). completes p other.out) more in
    ap (λ b. length (cond b (one ∷ others) others)) (out-incomplete p one.out are.0.change) ∙ announced-none p more are.1

-- ---- Ask

signal-unasked : (it : Signal) → IsOfChange it → is_ask_signal it ≡ false
signal-unasked (signal.Ask prompt round kind label wrong) is = absurd is
signal-unasked (signal.Completed prompt dismissed completion) is = absurd is
signal-unasked (signal.CollectionCreated collection) is = refl
signal-unasked (signal.CollectionDeleted collection) is = refl
signal-unasked (signal.CollectionChanged collection) is = refl
signal-unasked (signal.ItemCreated collection item) is = refl
signal-unasked (signal.ItemDeleted collection item) is = refl
signal-unasked (signal.ItemChanged collection item) is = refl
signal-unasked (signal.PropertiesChanged object changed invalidated) is = refl

out-unasked : (o : Out) → IsChangeOut o → is_ask o ≡ false
out-unasked (out.Return serial body) is = absurd is
out-unasked (out.Error serial name) is = absurd is
out-unasked (out.Signal it) is = signal-unasked it is

pub announced-for : (agent : Option ConnId) (said : List Sent) → AreAnnounced said → AreForAgent agent said
announced-for agent [] are = tt
announced-for agent (one ∷ more) are =
    (λ its. absurd (let no : false ≡ true = sym (out-unasked one.out are.0.change) ∙ its in cc), announced-for agent more are.1)

-- ---- changes

signal-announces : (it : Signal) → IsOfChange it → is_announcement it ≡ true
signal-announces (signal.Ask prompt round kind label wrong) is = absurd is
signal-announces (signal.Completed prompt dismissed completion) is = absurd is
signal-announces (signal.CollectionCreated collection) is = refl
signal-announces (signal.CollectionDeleted collection) is = refl
signal-announces (signal.CollectionChanged collection) is = refl
signal-announces (signal.ItemCreated collection item) is = refl
signal-announces (signal.ItemDeleted collection item) is = refl
signal-announces (signal.ItemChanged collection item) is = refl
signal-announces (signal.PropertiesChanged object changed invalidated) is = refl

pub out-announces : (o : Out) → IsChangeOut o → announces o ≡ true
out-announces (out.Return serial body) is = absurd is
out-announces (out.Error serial name) is = absurd is
out-announces (out.Signal it) is = signal-announces it is
