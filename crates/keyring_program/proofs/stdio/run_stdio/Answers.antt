use Rattle.std.proofs.Common.{inr, sym, ◌∙◌}
use Rattle.lone_desk.specs.service_tables.specs.Opened.{contents_of}
use Rattle.service_hub.specs.connection_worker.specs.Streams.{input_of, output_of}
use Rattle.keyring_program.proofs.CompleteLemmas.{complete, stdio-status}
use Rattle.keyring_program.proofs.FolderLemmas.{is-opened}
use Rattle.keyring_program.proofs.ServeLemmas.{nothing, nothing-sound, serves-none}
use Rattle.keyring_program.proofs.stdio.run_stdio.Goals as goal

-- the folder is open
pub returns-in-Ok-clause-status : goal.returns-in-Ok-clause-status
returns-in-Ok-clause-status g c = stdio-status c.args.uid c.args.seed _ _ _ _ _ _ _ c.serve_client.result c.serve_client.ensures

pub returns-in-Ok-clause-opened : goal.returns-in-Ok-clause-opened
returns-in-Ok-clause-opened g c images honest told had = is-opened images _ _ (c.in-Ok.ensures.opened images honest told).opened

pub returns-in-Ok-clause-served : goal.returns-in-Ok-clause-served
returns-in-Ok-clause-served g c =
    inr (
      contents_of c.in-Ok.service.history.state,
      λ had images honest told. c.in-Ok.ensures.opened images honest told,
      rw (sym (c.clock-clock.ensures.told ∙ c.open_service.ensures.coming), sym c.in-Ok.ensures.steady_disk) c.serve_client.ensures,
    )

pub returns-in-Ok-clause-complete : goal.returns-in-Ok-clause-complete
returns-in-Ok-clause-complete g c bytes whole told steady input output =
    complete c.args.uid c.args.seed bytes _ _ _ _ _ _ _ c.serve_client.result c.serve_client.ensures whole told input output

-- it isn't
pub returns-in-Err-OutOfMemory-clause-served : goal.returns-in-Err-OutOfMemory-clause-served
returns-in-Err-OutOfMemory-clause-served g c =
    inr (
      nothing,
      λ had. absurd had,
      serves-none nothing c.args.uid c.args.seed (g.H.Host.coming c.args.host.now)
          (input_of g.I.Source.left g.I.Source.faults g.I.Source.is_steady g.I.Source.is_closed c.args.input.now) (output_of g.O.Sink.written g.O.Sink.faults g.O.Sink.is_steady g.O.Sink.is_closed c.args.output.now) _ nothing-sound,
    )
