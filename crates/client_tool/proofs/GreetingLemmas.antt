-- What a handshake over a link is to the tool.
use Rattle.std.proofs.Common.{◌≡◌, ℕ, List, Result, Ok, Err, IfOk, IfErr, sym, ◌∙◌, ap, subst}
use Rattle.dbus_auth_client.specs.Hearing.{opened}
use Rattle.dbus_framing.specs.Framers.{Framing, just_fed}
use Rattle.dbus_opening.specs.declared.refused.OpenRefused.{OpenRefused}
use Rattle.dbus_opening.specs.declared.refused.OpenRefused.TheVariants as refused
use Rattle.dbus_opening.specs.Opening.{Opens}
use Rattle.kr_dialer.specs.Carrying.{LinkState, IsFront}
use Rattle.kr_dialer.proofs.CarriedLemmas.{front-all}
use Rattle.client_tool.specs.declared.status.Stop.{Stop}
use Rattle.client_tool.specs.declared.status.Stop.TheVariants as stop
use Rattle.client_tool.specs.Talking.{most_bytes}
use Rattle.client_tool.specs.Greeting.{Greets, stopped_by}

-- the link is open, and what was read after the handshake is in a framer, or there was no memory for it
pub greets-fed : (uid : ℕ) (old new : LinkState) (rest : List ℕ) (result : Result Framing Stop) → Opens uid old new (Ok rest)
    → IfOk result (λ framing. framing ≡ just_fed most_bytes rest) → IfErr result (λ why. why ≡ stop.Memory) → Greets uid old new result
greets-fed uid old new rest (Ok framing) opens fed none = record {
  read = opens.read;
  wrote = opens.wrote;
  carried = opens.carried;
  ends = (
    (opens.ends.0.0, opens.ends.0.1 ∙ ap (λ (f : Framing). opened opens.ends.0.0 f.rest) (sym fed)),
    ap (λ (f : Framing). f.most) fed,
    opens.ends.1,
    opens.ends.2,
  );
}
greets-fed uid old new rest (Err why) opens fed none = subst (λ (s : Stop). Greets uid old new (Err s)) (sym none)
    (record {
      read = opens.read;
      wrote = opens.wrote;
      carried = opens.carried;
      ends = (subst (λ (l : List ℕ). IsFront opens.wrote l) opens.ends.1 (front-all opens.wrote), opens.ends.2);
    })

-- it isn't
pub greets-not : (uid : ℕ) (old new : LinkState) (why : OpenRefused) → Opens uid old new (Err why) → Greets uid old new (Err (stopped_by why))
greets-not uid old new (refused.Handshake fault) opens = record { read = opens.read; wrote = opens.wrote; carried = opens.carried; ends = opens.ends }
greets-not uid old new refused.ReadFault opens = record {
  read = opens.read;
  wrote = opens.wrote;
  carried = opens.carried;
  ends = (subst (λ (l : List ℕ). IsFront opens.wrote l) opens.ends.1 (front-all opens.wrote), opens.ends.2);
}
greets-not uid old new refused.WriteFault opens = record { read = opens.read; wrote = opens.wrote; carried = opens.carried; ends = opens.ends }
greets-not uid old new refused.OutOfMemory opens = record { read = opens.read; wrote = opens.wrote; carried = opens.carried; ends = opens.ends }
