use Rattle.std.proofs.Common.{◌∙◌, ap, inr}
use Rattle.std.proofs.lemmas.Result.{IfOk-weaker}
use Rattle.lone_desk.specs.service_tables.specs.Opened.{contents_of}
use Rattle.keyring_program.proofs.FolderLemmas.{has-opened}
use Rattle.keyring_program.proofs.folder.open_service.Goals as goal

-- what was loaded is what a start makes of the images
pub returns-in-Ok-clause-opened : goal.returns-in-Ok-clause-opened
returns-in-Ok-clause-opened g c images honest told =
    IfOk-weaker c.open.result _ _ (λ service is. record {
      loaded = is.loaded;
      opened = has-opened (g.H.Host.told c.args.host.now c.args.path.now) images _ _ _ told c.in-Ok.ensures.told (is.loads.opened (c.in-Ok.ensures.honest_folder ∙ honest));
      starts = ap contents_of is.starts;
    }) c.open.ensures.loaded

-- what it loaded is as steady as the host
pub returns-in-Ok-clause-steady_disk : goal.returns-in-Ok-clause-steady_disk
returns-in-Ok-clause-steady_disk g c = IfOk-weaker c.open.result _ _ (λ service is. is ∙ c.in-Ok.ensures.steady_folder) c.open.ensures.steady

-- a steady host's folder is steady, and never at fault
pub returns-in-Ok-clause-cause : goal.returns-in-Ok-clause-cause
returns-in-Ok-clause-cause g c is = inr (λ steady. c.open.ensures.never (c.in-Ok.ensures.steady_folder ∙ steady) is)
