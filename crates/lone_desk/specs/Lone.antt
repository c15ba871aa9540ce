-- The desk over a service of one thread, as contracts see it.
use Rattle.std.specs.Prelude.{Bool, true, false, None}
use Rattle.service_desk.specs.service_events.specs.Fates.{is_steady}
use Rattle.service_history.specs.Windows.{total}
use Rattle.service_desk.specs.Places.{Told}
use Rattle.service_desk.specs.Views.{View, IsView}
use Rattle.lone_desk.specs.declared.lone.LoneDesk.{LoneDesk}

-- what it reports: the service's state, and how many events it has recorded; nobody else records any, it is steady if the disk
-- of the service is, and a call that takes doesn't wait
abbrev pub told : {F S : Type 0} → (F → Bool) → (S → Bool) → LoneDesk F S → Told
told folder_steady slot_steady desk = record {
  conn = desk.conn;
  home = None;
  state = desk.service.history.state;
  count = total desk.service.history.window;
  is_alone = true;
  is_steady = is_steady folder_steady slot_steady desk.service.disk;
  is_waiting = false;
}

-- it may have seen any events that lead to the service's state, and that are as many as the service has recorded since then
abbrev pub has_seen : {F S : Type 0} → LoneDesk F S → View → Type 0
has_seen desk view = IsView desk.service.history.state (total desk.service.history.window) view
