use Rattle.service_desk.specs.Places.{place}
use Rattle.service_desk.proofs.RecordLemmas.{records-none, records-more, looks-records, extends-records}
use Rattle.service_desk.proofs.view_laws.calls_compose.Goals as goal

pub returns-clause-none : goal.returns-clause-none
returns-clause-none g c = λ desk. records-none (place g.D.Desk.told g.D.Desk.has_seen desk)

pub returns-clause-more : goal.returns-clause-more
returns-clause-more g c = λ old mid new.
    records-more (place g.D.Desk.told g.D.Desk.has_seen old) (place g.D.Desk.told g.D.Desk.has_seen mid) (place g.D.Desk.told g.D.Desk.has_seen new)

pub returns-clause-looks : goal.returns-clause-looks
returns-clause-looks g c = λ old new. looks-records (place g.D.Desk.told g.D.Desk.has_seen old) (place g.D.Desk.told g.D.Desk.has_seen new)

pub returns-clause-extends : goal.returns-clause-extends
returns-clause-extends g c = λ old new. extends-records (place g.D.Desk.told g.D.Desk.has_seen old) (place g.D.Desk.told g.D.Desk.has_seen new)
