use Rattle.std.proofs.Common.{refl}
use Rattle.service_machine.specs.service_events.specs.declared.event.Event.{Event}
use Rattle.service_machine.specs.service_events.specs.declared.event.Event.TheVariants as event
use Rattle.service_machine.specs.service_events.specs.Fates.{with_fates}
use Rattle.service_history.proofs.service.Service.event.Goals as goal

-- a connection that joins uses no device
pub returns-in_ok-join-in-Connect-clause-recorded : goal.returns-in_ok-join-in-Connect-clause-recorded
returns-in_ok-join-in-Connect-clause-recorded g c =
    let stores = c.in_ok-join-in-Connect.ensures.stores in
    record {
      recorded = record { event = event.Connect c.in_ok-join-in-Connect.field-0; records = rw c.in-Connect.is tt; fits = stores.fits; faultless = λ _. tt; answers = refl; appends = stores.appends };
      disk = record { did = c.join.ensures.disk };
    }

-- a request is recorded with its fates
pub returns-in_ok-work-in-Arrive-clause-recorded : goal.returns-in_ok-work-in-Arrive-clause-recorded
returns-in_ok-work-in-Arrive-clause-recorded g c =
    let stores = c.in_ok-work-in-Arrive.ensures.stores in
    let came : Event = with_fates c.in-Arrive.arrival stores.fates in
    record {
      recorded = record { event = came; records = rw c.in-Arrive.is refl; fits = stores.stores.fits; faultless = stores.faultless; answers = stores.gives; appends = stores.stores.appends };
      disk = stores.disk;
    }

-- a derived key is recorded with its fates
pub returns-in_ok-derived-in-Derived-clause-recorded : goal.returns-in_ok-derived-in-Derived-clause-recorded
returns-in_ok-derived-in-Derived-clause-recorded g c =
    let stores = c.in_ok-derived-in-Derived.ensures.stores in
    let came : Event = event.Derived stores.came in
    record {
      recorded = record { event = came; records = rw c.in-Derived.is stores.is; fits = stores.stores.fits; faultless = stores.faultless; answers = refl; appends = stores.stores.appends };
      disk = stores.disk;
    }
