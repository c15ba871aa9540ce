-- A call that reads an item of a load, once all are made.
use Rattle.std.proofs.Common.{◌≡◌, ℕ, ◌+◌, ◌<◌, Bool, true, cond, List, [], length, Option, option_map, option_and_then, Ok, codes, ap, ◌∙◌, arith}
use Rattle.keyring_file.specs.Clear.{ClearPart}
use Rattle.keyring_file.specs.declared.area.FullItem.{FullItem}
use Rattle.keyring_file.specs.declared.clear.ClearItem.{ClearItem}
use Rattle.connection_worker.specs.service_events.specs.service_tables.specs.keyring_seal.specs.Arranged.{Row}
use Rattle.connection_worker.specs.service_events.specs.secret_calls.specs.declared.out.Body.TheVariants as body
use Rattle.connection_worker.specs.service_events.specs.secret_calls.specs.declared.out.ErrorName.TheVariants as name
use Rattle.connection_worker.specs.service_events.specs.secret_calls.specs.declared.secret.ReturnedSecret.{ReturnedSecret}
use Rattle.connection_worker.specs.service_events.specs.alias_table.specs.Table.{AliasRows}
use Rattle.prompt_state.specs.declared.row.Prompts.{Prompts}
use Rattle.connection_worker.specs.service_events.specs.service_tables.specs.State.{State}
use Rattle.connection_worker.specs.service_events.specs.service_tables.specs.declared.rows.ConnRows.{ConnRows}
use Rattle.connection_worker.specs.service_events.specs.service_tables.specs.declared.fate.Fate.{Fate}
use Rattle.connection_worker.specs.service_events.specs.Plan.{Ends, Gift, Gives, Secret_of, refused}
use Rattle.connection_worker.specs.service_events.specs.Run.{Ran, filled, fits, run, secret_returned}
use Rattle.connection_worker.specs.service_events.specs.Step.{brought_with}
use Rattle.connection_worker.specs.Fitting.{announced_in}
use Rattle.load_plan.specs.Plan.{read, the_name, the_session}
use Rattle.load_plan.specs.Words.{secret_of}
use Rattle.load_laws.specs.Requests.{the_connection}
use Rattle.load_laws.proofs.CreateLemmas.{collection_of, tables_with}
use Rattle.load_laws.proofs.OpeningLemmas.{Leads, run-ends}
use Rattle.load_laws.proofs.RowLemmas.{AreItems, IsThere, long-secret, there}
use Rattle.load_laws.proofs.SizeLemmas.{secret-fits}
use Rattle.load_laws.proofs.TurnLemmas.{tables, with_tables}

-- the secret of an item, as it is returned
abbrev pub secret : ℕ → ℕ → ReturnedSecret
secret seed item = record { session = the_session; value = secret_of seed item; content = codes "text/plain" }

module _ (seed item now : ℕ) (salt : List ℕ) (fates : List Fate) (connections : ConnRows) (prompts : Prompts) (aliases : Option AliasRows) (used : List (List ℕ)) (image : List ℕ) (front : ClearPart) (key vector : List ℕ)
    (rows : List Row) (items : AreItems seed 0 rows) (within : item < length rows) where
  abbrev here : State
  here = with_tables connections (tables_with prompts aliases used (collection_of image front key vector rows))

  its : IsThere seed item rows
  its = there seed 0 item rows items (omega arith) (omega (arith, within))

  abbrev gift : Gift
  gift = Secret_of the_session the_name (record { 0 = item + 1 })

  -- what is read of the row and of the clear part
  abbrev read_of : Option Row → Option ClearItem → Option ReturnedSecret
  read_of row clear =
      option_and_then (λ (full : FullItem). option_map (λ (content : List ℕ). record { session = the_session; value = full.value; content = content }) (option_map (λ (it : ClearItem). it.content) clear))
      (option_map (λ (r : Row). r.1) row)

  filled-is : filled the_connection here (Gives gift) ≡ Ok (body.Secret (secret seed item))
  filled-is =
      (λ i. secret_returned (read_of (its.at i) (its.clear i)))
      ∙ ap (λ (r : Row). Ok (body.Secret (record { session = the_session; value = r.1.value; content = r.0.content }))) its.its.is

  filled-fits : fits (filled the_connection here (Gives gift)) ≡ true
  filled-fits = ap fits filled-is ∙ secret-fits (secret seed item) (omega arith) (omega (arith, long-secret seed item)) (omega arith)

  pub reads : Leads connections (tables_with prompts aliases used (collection_of image front key vector rows)) (read item) salt now fates (body.Secret (secret seed item))
      (tables_with prompts aliases used (collection_of image front key vector rows))
  reads =
      let brought = brought_with now (Ok (read item)) in
      let first = ap (λ (b : Bool). run the_connection brought (cond b (Ends (Gives gift) []) (refused name.NoSuchObject)) fates here) its.shown in
      let ends = first ∙ run-ends brought fates here (Gives gift) [] filled-fits in
      record { answer = ap (λ (r : Ran). r.answer) ends ∙ filled-is; leaves = ap (λ (r : Ran). tables r.state) ends; silent = ap (λ (r : Ran). announced_in r.sends) ends }
