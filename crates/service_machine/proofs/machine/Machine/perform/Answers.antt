use Rattle.std.proofs.Common.{[], sym}
use Rattle.service_answers.specs.service_calls.proofs.LeadsLemmas.{map-ok}
use Rattle.service_machine.proofs.RoomLemmas.{room_kept}
use Rattle.service_machine.proofs.machine.Machine.perform.Goals as goal

-- the row is performed as its function says, whatever the request brings
pub returns-in-Prompt-clause-leads : goal.returns-in-Prompt-clause-leads
returns-in-Prompt-clause-leads g c = rw c.in-Prompt.is (map-ok c.call_prompt.result _ _ (λ done leads. leads _) c.call_prompt.ensures.leads)

pub returns-in-Dismiss-clause-leads : goal.returns-in-Dismiss-clause-leads
returns-in-Dismiss-clause-leads g c = rw c.in-Dismiss.is (map-ok c.dismiss.result _ _ (λ done leads. leads _) c.dismiss.ensures.leads)

pub returns-in-Register-clause-leads : goal.returns-in-Register-clause-leads
returns-in-Register-clause-leads g c = rw c.in-Register.is (map-ok c.register.result _ _ (λ done leads. leads _) c.register.ensures.leads)

pub returns-in-Refuse-clause-leads : goal.returns-in-Refuse-clause-leads
returns-in-Refuse-clause-leads g c = rw c.in-Refuse.is (map-ok c.refuse.result _ _ (λ done leads. leads _) c.refuse.ensures.leads)

pub returns-in-Answer-clause-leads : goal.returns-in-Answer-clause-leads
returns-in-Answer-clause-leads g c = rw c.in-Answer.is (map-ok c.answer_prompt.result _ _ (λ done leads. leads _) c.answer_prompt.ensures.leads)

-- a removal leads to the same whatever the request brings
pub returns-in-DeleteCollection-clause-leads : goal.returns-in-DeleteCollection-clause-leads
returns-in-DeleteCollection-clause-leads g c = rw c.in-DeleteCollection.is (map-ok c.delete_collection.result _ _ (λ done leads. leads _) c.delete_collection.ensures.leads)

-- so does an alias that is set
pub returns-in-SetAlias-clause-leads : goal.returns-in-SetAlias-clause-leads
returns-in-SetAlias-clause-leads g c = rw c.in-SetAlias.is (map-ok c.set_alias.result _ _ (λ done leads. leads _) c.set_alias.ensures.leads)

-- so does a prompt that begins
pub returns-in-CreateCollection-clause-leads : goal.returns-in-CreateCollection-clause-leads
returns-in-CreateCollection-clause-leads g c = rw c.in-CreateCollection.is (map-ok c.create_collection.result _ _ (λ done leads. leads _) c.create_collection.ensures.leads)

pub returns-in-ChangePassword-clause-leads : goal.returns-in-ChangePassword-clause-leads
returns-in-ChangePassword-clause-leads g c = rw c.in-ChangePassword.is (map-ok c.change_password.result _ _ (λ done leads. leads _) c.change_password.ensures.leads)

pub returns-in-Unlock-clause-leads : goal.returns-in-Unlock-clause-leads
returns-in-Unlock-clause-leads g c = rw (c.in-Unlock.is, sym c.as_slice-in-Unlock.ensures) (map-ok c.unlock.result _ _ (λ done leads. leads _) c.unlock.ensures.leads)

-- so do collections that are locked
pub returns-in-Lock-clause-leads : goal.returns-in-Lock-clause-leads
returns-in-Lock-clause-leads g c = rw (c.in-Lock.is, sym c.as_slice.ensures) (map-ok c.lock.result _ _ (λ done leads. leads _) c.lock.ensures.leads)

-- and a session that is opened
pub returns-in-OpenSession-clause-leads : goal.returns-in-OpenSession-clause-leads
returns-in-OpenSession-clause-leads g c = rw c.in-OpenSession.is (map-ok c.open_session.result _ _ (λ done leads. leads _) c.open_session.ensures.leads)

-- what is only read is answered unless it is too large
pub returns-in_ok-answer-in-SearchItems-clause-leads : goal.returns-in_ok-answer-in-SearchItems-clause-leads
returns-in_ok-answer-in-SearchItems-clause-leads g c = rw c.in-SearchItems.is (c.answered-in-SearchItems.ensures.leads c.args.conn (record { now = c.args.now; value = [] }) _ (c.in_ok-answer-in-SearchItems.ensures (record { now = c.args.now; value = [] })))

pub returns-in_ok-answer-in-ReadAlias-clause-leads : goal.returns-in_ok-answer-in-ReadAlias-clause-leads
returns-in_ok-answer-in-ReadAlias-clause-leads g c = rw c.in-ReadAlias.is (c.answered-in-ReadAlias.ensures.leads c.args.conn (record { now = c.args.now; value = [] }) _ (c.in_ok-answer-in-ReadAlias.ensures (record { now = c.args.now; value = [] })))

pub returns-in_ok-answer-in-SearchCollection-clause-leads : goal.returns-in_ok-answer-in-SearchCollection-clause-leads
returns-in_ok-answer-in-SearchCollection-clause-leads g c = rw c.in-SearchCollection.is (c.answered-in-SearchCollection.ensures.leads c.args.conn (record { now = c.args.now; value = [] }) _ (c.in_ok-answer-in-SearchCollection.ensures (record { now = c.args.now; value = [] })))

pub returns-in_ok-answer-in-Get-clause-leads : goal.returns-in_ok-answer-in-Get-clause-leads
returns-in_ok-answer-in-Get-clause-leads g c = rw c.in-Get.is (c.answered-in-Get.ensures.leads c.args.conn (record { now = c.args.now; value = [] }) _ (c.in_ok-answer-in-Get.ensures (record { now = c.args.now; value = [] })))

pub returns-in_ok-answer-in-GetAll-clause-leads : goal.returns-in_ok-answer-in-GetAll-clause-leads
returns-in_ok-answer-in-GetAll-clause-leads g c =
    rw (c.in-GetAll.is, sym c.as_slice-in-GetAll.ensures) (c.answered-in-GetAll.ensures.leads c.args.conn (record { now = c.args.now; value = [] }) _ (c.in_ok-answer-in-GetAll.ensures (record { now = c.args.now; value = [] })))

-- a property is set whatever value of a secret the request brings
pub returns-in-SetCollectionLabel-clause-leads : goal.returns-in-SetCollectionLabel-clause-leads
returns-in-SetCollectionLabel-clause-leads g c = rw c.in-SetCollectionLabel.is (map-ok c.set_collection_label.result _ _ (λ done leads. leads _) c.set_collection_label.ensures.leads)

-- what sends nothing leaves room for the reply
pub returns-in-Unregister-clause-room : goal.returns-in-Unregister-clause-room
returns-in-Unregister-clause-room g c = room_kept c.args.conn c.unregister.result _ _ c.unregister.ensures.silent c.unregister.ensures.room c.requires
