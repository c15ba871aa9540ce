use Rattle.std.proofs.Common.{true, false, inl, inr, refl, sym, ◌∙◌, subst}
use Rattle.command_words.specs.declared.command_line.CommandLine.TheVariants.{Stdio, Serve, ServeUntilEof, Load, Check}
use Rattle.service_hub.specs.connection_worker.specs.Streams.{input_of, output_of}
use Rattle.keyring_program.specs.Status.{IsCheckStatus, IsLoadStatus, IsStdioStatus, IsServeStatus}
use Rattle.keyring_program.specs.Commands.{serve_line}
use Rattle.keyring_program.proofs.CommandLemmas.{one_stdio, one_serve, one_check, one_load, serve_or_stdio, load_or_stdio, load_or_serve, check_or_stdio, check_or_serve, check_or_load, load-few, no_service}
use Rattle.keyring_program.proofs.CheckLemmas.{none-or-some}
use Rattle.keyring_program.proofs.ServeLemmas.{nothing, nothing-sound, serves-none}
use Rattle.keyring_program.proofs.program.run.Goals as goal

-- the arguments are invalid
pub returns-in-Ok-None-clause-opened : goal.returns-in-Ok-None-clause-opened
returns-in-Ok-None-clause-opened g c folder uid images words = absurd ((rw c.in-Ok-None.field-0-is at c.in-Ok-None.ensures.read) (Stdio folder uid) words)

pub returns-in-Ok-None-clause-served : goal.returns-in-Ok-None-clause-served
returns-in-Ok-None-clause-served g c folder uid words = absurd ((rw c.in-Ok-None.field-0-is at c.in-Ok-None.ensures.read) (Stdio folder uid) words)

pub returns-in-Ok-None-clause-complete : goal.returns-in-Ok-None-clause-complete
returns-in-Ok-None-clause-complete g c folder uid bytes words = absurd ((rw c.in-Ok-None.field-0-is at c.in-Ok-None.ensures.read) (Stdio folder uid) words)

pub returns-in-Ok-None-clause-serve_status : goal.returns-in-Ok-None-clause-serve_status
returns-in-Ok-None-clause-serve_status g c until_eof folder socket uid most words = absurd ((rw c.in-Ok-None.field-0-is at c.in-Ok-None.ensures.read) (serve_line until_eof folder socket uid most) words)

pub returns-in-Ok-None-clause-serve_opened : goal.returns-in-Ok-None-clause-serve_opened
returns-in-Ok-None-clause-serve_opened g c until_eof folder socket uid most images words = absurd ((rw c.in-Ok-None.field-0-is at c.in-Ok-None.ensures.read) (serve_line until_eof folder socket uid most) words)

pub returns-in-Ok-None-clause-serve_complete : goal.returns-in-Ok-None-clause-serve_complete
returns-in-Ok-None-clause-serve_complete g c until_eof folder socket uid most words = absurd ((rw c.in-Ok-None.field-0-is at c.in-Ok-None.ensures.read) (serve_line until_eof folder socket uid most) words)

pub returns-in-Ok-None-clause-serve_recorded : goal.returns-in-Ok-None-clause-serve_recorded
returns-in-Ok-None-clause-serve_recorded g c until_eof folder socket uid most words = absurd ((rw c.in-Ok-None.field-0-is at c.in-Ok-None.ensures.read) (serve_line until_eof folder socket uid most) words)

pub returns-in-Ok-None-clause-stdio_status : goal.returns-in-Ok-None-clause-stdio_status
returns-in-Ok-None-clause-stdio_status g c folder uid words = absurd ((rw c.in-Ok-None.field-0-is at c.in-Ok-None.ensures.read) (Stdio folder uid) words)

pub returns-in-Ok-None-clause-loaded : goal.returns-in-Ok-None-clause-loaded
returns-in-Ok-None-clause-loaded g c items number words = absurd ((rw c.in-Ok-None.field-0-is at c.in-Ok-None.ensures.read) (Load items number) words)

pub returns-in-Ok-None-clause-check_status : goal.returns-in-Ok-None-clause-check_status
returns-in-Ok-None-clause-check_status g c folder is_asked words = absurd ((rw c.in-Ok-None.field-0-is at c.in-Ok-None.ensures.read) (Check folder is_asked) words)

pub returns-in-Ok-None-clause-check_reads : goal.returns-in-Ok-None-clause-check_reads
returns-in-Ok-None-clause-check_reads g c folder is_asked words = absurd ((rw c.in-Ok-None.field-0-is at c.in-Ok-None.ensures.read) (Check folder is_asked) words)

pub returns-in-Ok-None-clause-check_writes : goal.returns-in-Ok-None-clause-check_writes
returns-in-Ok-None-clause-check_writes g c folder is_asked words = absurd ((rw c.in-Ok-None.field-0-is at c.in-Ok-None.ensures.read) (Check folder is_asked) words)

pub returns-in-Ok-None-clause-checked : goal.returns-in-Ok-None-clause-checked
returns-in-Ok-None-clause-checked g c folder is_asked words = absurd ((rw c.in-Ok-None.field-0-is at c.in-Ok-None.ensures.read) (Check folder is_asked) words)

-- no memory was left to read them
pub returns-in-Err-clause-usage : goal.returns-in-Err-clause-usage
returns-in-Err-clause-usage g c =
    (λ same. absurd (let never : ⊥ = cc in never), λ none. absurd (none c.in-Err.ensures.memory.0 c.in-Err.ensures.memory.1))

pub returns-in-Err-clause-served : goal.returns-in-Err-clause-served
returns-in-Err-clause-served g c folder uid words =
    inr (
      nothing,
      λ had. absurd had,
      serves-none nothing uid c.args.seed (g.H.Host.coming c.args.host.now)
          (input_of g.I.Source.left g.I.Source.faults g.I.Source.is_steady g.I.Source.is_closed c.args.input.now) (output_of g.O.Sink.written g.O.Sink.faults g.O.Sink.is_steady g.O.Sink.is_closed c.args.output.now) _ nothing-sound,
    )

pub returns-in-Err-clause-serve_recorded : goal.returns-in-Err-clause-serve_recorded
returns-in-Err-clause-serve_recorded g c until_eof folder socket uid most words = inl (record { unserved = tt; doors = refl; jobs = refl })

pub returns-in-Err-clause-loaded : goal.returns-in-Err-clause-loaded
returns-in-Err-clause-loaded g c items number words = (tt, refl, refl, (refl, refl))

-- the arguments are those of `stdio`
pub returns-in-Stdio-clause-usage : goal.returns-in-Stdio-clause-usage
returns-in-Stdio-clause-usage g c = (
  λ same. absurd (subst IsStdioStatus same c.run_stdio.ensures.status),
  λ none. absurd (none (Stdio c.in-Stdio.folder c.in-Stdio.uid) (rw c.in-Stdio.is at (rw c.in-Ok-Some.field-0-is at c.in-Ok-Some.ensures.read))),
)

pub returns-in-Stdio-clause-opened : goal.returns-in-Stdio-clause-opened
returns-in-Stdio-clause-opened g c folder uid images words honest told had =
    let same = one_stdio c.args.words.now c.in-Stdio.folder folder c.in-Stdio.uid uid (rw c.in-Stdio.is at (rw c.in-Ok-Some.field-0-is at c.in-Ok-Some.ensures.read)) words in
    c.run_stdio.ensures.opened images honest (rw (c.as_str.ensures.value ∙ same.0) told) had

pub returns-in-Stdio-clause-served : goal.returns-in-Stdio-clause-served
returns-in-Stdio-clause-served g c folder uid words =
    let same = one_stdio c.args.words.now c.in-Stdio.folder folder c.in-Stdio.uid uid (rw c.in-Stdio.is at (rw c.in-Ok-Some.field-0-is at c.in-Ok-Some.ensures.read)) words in
    rw (sym same.1, sym (c.as_str.ensures.value ∙ same.0)) c.run_stdio.ensures.served

pub returns-in-Stdio-clause-complete : goal.returns-in-Stdio-clause-complete
returns-in-Stdio-clause-complete g c folder uid bytes words whole told steady input output =
    let same = one_stdio c.args.words.now c.in-Stdio.folder folder c.in-Stdio.uid uid (rw c.in-Stdio.is at (rw c.in-Ok-Some.field-0-is at c.in-Ok-Some.ensures.read)) words in
    c.run_stdio.ensures.complete bytes (rw same.1 whole) told steady input output

pub returns-in-Stdio-clause-stdio_status : goal.returns-in-Stdio-clause-stdio_status
returns-in-Stdio-clause-stdio_status g c folder uid words =
    (c.run_stdio.ensures.status, c.run_stdio.ensures.doors, λ had. (c.run_stdio.ensures.had_folder had).1)

pub returns-in-Stdio-clause-listen_fault : goal.returns-in-Stdio-clause-listen_fault
returns-in-Stdio-clause-listen_fault g c same = absurd (subst IsStdioStatus same c.run_stdio.ensures.status)

pub returns-in-Stdio-clause-serve_status : goal.returns-in-Stdio-clause-serve_status
returns-in-Stdio-clause-serve_status g c until_eof folder socket uid most words =
    absurd (serve_or_stdio c.args.words.now until_eof folder c.in-Stdio.folder socket uid c.in-Stdio.uid most words (rw c.in-Stdio.is at (rw c.in-Ok-Some.field-0-is at c.in-Ok-Some.ensures.read)))

pub returns-in-Stdio-clause-serve_done : goal.returns-in-Stdio-clause-serve_done
returns-in-Stdio-clause-serve_done g c until_eof folder socket uid most words =
    absurd (serve_or_stdio c.args.words.now until_eof folder c.in-Stdio.folder socket uid c.in-Stdio.uid most words (rw c.in-Stdio.is at (rw c.in-Ok-Some.field-0-is at c.in-Ok-Some.ensures.read)))

pub returns-in-Stdio-clause-serve_opened : goal.returns-in-Stdio-clause-serve_opened
returns-in-Stdio-clause-serve_opened g c until_eof folder socket uid most images words =
    absurd (serve_or_stdio c.args.words.now until_eof folder c.in-Stdio.folder socket uid c.in-Stdio.uid most words (rw c.in-Stdio.is at (rw c.in-Ok-Some.field-0-is at c.in-Ok-Some.ensures.read)))

pub returns-in-Stdio-clause-serve_complete : goal.returns-in-Stdio-clause-serve_complete
returns-in-Stdio-clause-serve_complete g c until_eof folder socket uid most words =
    absurd (serve_or_stdio c.args.words.now until_eof folder c.in-Stdio.folder socket uid c.in-Stdio.uid most words (rw c.in-Stdio.is at (rw c.in-Ok-Some.field-0-is at c.in-Ok-Some.ensures.read)))

pub returns-in-Stdio-clause-serve_recorded : goal.returns-in-Stdio-clause-serve_recorded
returns-in-Stdio-clause-serve_recorded g c until_eof folder socket uid most words =
    absurd (serve_or_stdio c.args.words.now until_eof folder c.in-Stdio.folder socket uid c.in-Stdio.uid most words (rw c.in-Stdio.is at (rw c.in-Ok-Some.field-0-is at c.in-Ok-Some.ensures.read)))

pub returns-in-Stdio-clause-had_folder : goal.returns-in-Stdio-clause-had_folder
returns-in-Stdio-clause-had_folder g c had has = (c.run_stdio.ensures.had_folder had).0

pub returns-in-Stdio-clause-loaded : goal.returns-in-Stdio-clause-loaded
returns-in-Stdio-clause-loaded g c items number words = absurd (load_or_stdio c.args.words.now c.in-Stdio.folder items number c.in-Stdio.uid words (rw c.in-Stdio.is at (rw c.in-Ok-Some.field-0-is at c.in-Ok-Some.ensures.read)))

pub returns-in-Stdio-clause-check_status : goal.returns-in-Stdio-clause-check_status
returns-in-Stdio-clause-check_status g c folder is_asked words = absurd (check_or_stdio c.args.words.now folder c.in-Stdio.folder is_asked c.in-Stdio.uid words (rw c.in-Stdio.is at (rw c.in-Ok-Some.field-0-is at c.in-Ok-Some.ensures.read)))

pub returns-in-Stdio-clause-check_reads : goal.returns-in-Stdio-clause-check_reads
returns-in-Stdio-clause-check_reads g c folder is_asked words = absurd (check_or_stdio c.args.words.now folder c.in-Stdio.folder is_asked c.in-Stdio.uid words (rw c.in-Stdio.is at (rw c.in-Ok-Some.field-0-is at c.in-Ok-Some.ensures.read)))

pub returns-in-Stdio-clause-check_writes : goal.returns-in-Stdio-clause-check_writes
returns-in-Stdio-clause-check_writes g c folder is_asked words = absurd (check_or_stdio c.args.words.now folder c.in-Stdio.folder is_asked c.in-Stdio.uid words (rw c.in-Stdio.is at (rw c.in-Ok-Some.field-0-is at c.in-Ok-Some.ensures.read)))

pub returns-in-Stdio-clause-checked : goal.returns-in-Stdio-clause-checked
returns-in-Stdio-clause-checked g c folder is_asked words = absurd (check_or_stdio c.args.words.now folder c.in-Stdio.folder is_asked c.in-Stdio.uid words (rw c.in-Stdio.is at (rw c.in-Ok-Some.field-0-is at c.in-Ok-Some.ensures.read)))

-- the arguments are those of `serve`
pub returns-in-Serve-clause-usage : goal.returns-in-Serve-clause-usage
returns-in-Serve-clause-usage g c = (
  λ same. absurd (subst IsServeStatus same c.run_serve.ensures.status),
  λ none. absurd (none (Serve c.in-Serve.folder c.in-Serve.socket c.in-Serve.uid c.in-Serve.connections) (rw c.in-Serve.is at (rw c.in-Ok-Some.field-0-is at c.in-Ok-Some.ensures.read))),
)

pub returns-in-Serve-clause-opened : goal.returns-in-Serve-clause-opened
returns-in-Serve-clause-opened g c folder uid images words =
    absurd (serve_or_stdio c.args.words.now false c.in-Serve.folder folder c.in-Serve.socket c.in-Serve.uid uid c.in-Serve.connections (rw c.in-Serve.is at (rw c.in-Ok-Some.field-0-is at c.in-Ok-Some.ensures.read)) words)

pub returns-in-Serve-clause-served : goal.returns-in-Serve-clause-served
returns-in-Serve-clause-served g c folder uid words =
    absurd (serve_or_stdio c.args.words.now false c.in-Serve.folder folder c.in-Serve.socket c.in-Serve.uid uid c.in-Serve.connections (rw c.in-Serve.is at (rw c.in-Ok-Some.field-0-is at c.in-Ok-Some.ensures.read)) words)

pub returns-in-Serve-clause-complete : goal.returns-in-Serve-clause-complete
returns-in-Serve-clause-complete g c folder uid bytes words =
    absurd (serve_or_stdio c.args.words.now false c.in-Serve.folder folder c.in-Serve.socket c.in-Serve.uid uid c.in-Serve.connections (rw c.in-Serve.is at (rw c.in-Ok-Some.field-0-is at c.in-Ok-Some.ensures.read)) words)

pub returns-in-Serve-clause-stdio_status : goal.returns-in-Serve-clause-stdio_status
returns-in-Serve-clause-stdio_status g c folder uid words =
    absurd (serve_or_stdio c.args.words.now false c.in-Serve.folder folder c.in-Serve.socket c.in-Serve.uid uid c.in-Serve.connections (rw c.in-Serve.is at (rw c.in-Ok-Some.field-0-is at c.in-Ok-Some.ensures.read)) words)

pub returns-in-Serve-clause-serve_done : goal.returns-in-Serve-clause-serve_done
returns-in-Serve-clause-serve_done g c until_eof folder socket uid most words done =
    let same = one_serve c.args.words.now false until_eof c.in-Serve.folder folder c.in-Serve.socket socket c.in-Serve.uid uid c.in-Serve.connections most (rw c.in-Serve.is at (rw c.in-Ok-Some.field-0-is at c.in-Ok-Some.ensures.read)) words in
    rw (sym same.1, sym (c.as_str-in-Serve-2.ensures.value ∙ same.3)) (c.run_serve.ensures.done done)

pub returns-in-Serve-clause-serve_opened : goal.returns-in-Serve-clause-serve_opened
returns-in-Serve-clause-serve_opened g c until_eof folder socket uid most images words honest told had =
    let same = one_serve c.args.words.now false until_eof c.in-Serve.folder folder c.in-Serve.socket socket c.in-Serve.uid uid c.in-Serve.connections most (rw c.in-Serve.is at (rw c.in-Ok-Some.field-0-is at c.in-Ok-Some.ensures.read)) words in
    c.run_serve.ensures.opened images honest (rw (c.as_str-in-Serve.ensures.value ∙ same.0) told) had

pub returns-in-Serve-clause-serve_recorded : goal.returns-in-Serve-clause-serve_recorded
returns-in-Serve-clause-serve_recorded g c until_eof folder socket uid most words =
    let same = one_serve c.args.words.now false until_eof c.in-Serve.folder folder c.in-Serve.socket socket c.in-Serve.uid uid c.in-Serve.connections most (rw c.in-Serve.is at (rw c.in-Ok-Some.field-0-is at c.in-Ok-Some.ensures.read)) words in
    rw (sym same.1, sym same.2, sym (c.as_str-in-Serve.ensures.value ∙ same.0), sym (c.as_str-in-Serve-2.ensures.value ∙ same.3)) c.run_serve.ensures.served

pub returns-in-Serve-clause-untouched : goal.returns-in-Serve-clause-untouched
returns-in-Serve-clause-untouched g c same = absurd (subst IsServeStatus same c.run_serve.ensures.status)

pub returns-in-Serve-clause-had_folder : goal.returns-in-Serve-clause-had_folder
returns-in-Serve-clause-had_folder g c had has = c.run_serve.ensures.had_folder had

pub returns-in-Serve-clause-loaded : goal.returns-in-Serve-clause-loaded
returns-in-Serve-clause-loaded g c items number words =
    absurd (load_or_serve c.args.words.now false c.in-Serve.folder c.in-Serve.socket items number c.in-Serve.uid c.in-Serve.connections words (rw c.in-Serve.is at (rw c.in-Ok-Some.field-0-is at c.in-Ok-Some.ensures.read)))

pub returns-in-Serve-clause-check_status : goal.returns-in-Serve-clause-check_status
returns-in-Serve-clause-check_status g c folder is_asked words =
    absurd (check_or_serve c.args.words.now false folder c.in-Serve.folder c.in-Serve.socket is_asked c.in-Serve.uid c.in-Serve.connections words (rw c.in-Serve.is at (rw c.in-Ok-Some.field-0-is at c.in-Ok-Some.ensures.read)))

pub returns-in-Serve-clause-check_reads : goal.returns-in-Serve-clause-check_reads
returns-in-Serve-clause-check_reads g c folder is_asked words =
    absurd (check_or_serve c.args.words.now false folder c.in-Serve.folder c.in-Serve.socket is_asked c.in-Serve.uid c.in-Serve.connections words (rw c.in-Serve.is at (rw c.in-Ok-Some.field-0-is at c.in-Ok-Some.ensures.read)))

pub returns-in-Serve-clause-check_writes : goal.returns-in-Serve-clause-check_writes
returns-in-Serve-clause-check_writes g c folder is_asked words =
    absurd (check_or_serve c.args.words.now false folder c.in-Serve.folder c.in-Serve.socket is_asked c.in-Serve.uid c.in-Serve.connections words (rw c.in-Serve.is at (rw c.in-Ok-Some.field-0-is at c.in-Ok-Some.ensures.read)))

pub returns-in-Serve-clause-checked : goal.returns-in-Serve-clause-checked
returns-in-Serve-clause-checked g c folder is_asked words =
    absurd (check_or_serve c.args.words.now false folder c.in-Serve.folder c.in-Serve.socket is_asked c.in-Serve.uid c.in-Serve.connections words (rw c.in-Serve.is at (rw c.in-Ok-Some.field-0-is at c.in-Ok-Some.ensures.read)))

-- the arguments are those of `serve` with `--until-eof`
pub returns-in-ServeUntilEof-clause-usage : goal.returns-in-ServeUntilEof-clause-usage
returns-in-ServeUntilEof-clause-usage g c = (
  λ same. absurd (subst IsServeStatus same c.run_serve-in-ServeUntilEof.ensures.status),
  λ none. absurd (none (ServeUntilEof c.in-ServeUntilEof.folder c.in-ServeUntilEof.socket c.in-ServeUntilEof.uid c.in-ServeUntilEof.connections) (rw c.in-ServeUntilEof.is at (rw c.in-Ok-Some.field-0-is at c.in-Ok-Some.ensures.read))),
)

pub returns-in-ServeUntilEof-clause-opened : goal.returns-in-ServeUntilEof-clause-opened
returns-in-ServeUntilEof-clause-opened g c folder uid images words =
    absurd (serve_or_stdio c.args.words.now true c.in-ServeUntilEof.folder folder c.in-ServeUntilEof.socket c.in-ServeUntilEof.uid uid c.in-ServeUntilEof.connections (rw c.in-ServeUntilEof.is at (rw c.in-Ok-Some.field-0-is at c.in-Ok-Some.ensures.read)) words)

pub returns-in-ServeUntilEof-clause-served : goal.returns-in-ServeUntilEof-clause-served
returns-in-ServeUntilEof-clause-served g c folder uid words =
    absurd (serve_or_stdio c.args.words.now true c.in-ServeUntilEof.folder folder c.in-ServeUntilEof.socket c.in-ServeUntilEof.uid uid c.in-ServeUntilEof.connections (rw c.in-ServeUntilEof.is at (rw c.in-Ok-Some.field-0-is at c.in-Ok-Some.ensures.read)) words)

pub returns-in-ServeUntilEof-clause-complete : goal.returns-in-ServeUntilEof-clause-complete
returns-in-ServeUntilEof-clause-complete g c folder uid bytes words =
    absurd (serve_or_stdio c.args.words.now true c.in-ServeUntilEof.folder folder c.in-ServeUntilEof.socket c.in-ServeUntilEof.uid uid c.in-ServeUntilEof.connections (rw c.in-ServeUntilEof.is at (rw c.in-Ok-Some.field-0-is at c.in-Ok-Some.ensures.read)) words)

pub returns-in-ServeUntilEof-clause-stdio_status : goal.returns-in-ServeUntilEof-clause-stdio_status
returns-in-ServeUntilEof-clause-stdio_status g c folder uid words =
    absurd (serve_or_stdio c.args.words.now true c.in-ServeUntilEof.folder folder c.in-ServeUntilEof.socket c.in-ServeUntilEof.uid uid c.in-ServeUntilEof.connections (rw c.in-ServeUntilEof.is at (rw c.in-Ok-Some.field-0-is at c.in-Ok-Some.ensures.read)) words)

pub returns-in-ServeUntilEof-clause-serve_done : goal.returns-in-ServeUntilEof-clause-serve_done
returns-in-ServeUntilEof-clause-serve_done g c until_eof folder socket uid most words done =
    let same = one_serve c.args.words.now true until_eof c.in-ServeUntilEof.folder folder c.in-ServeUntilEof.socket socket c.in-ServeUntilEof.uid uid c.in-ServeUntilEof.connections most (rw c.in-ServeUntilEof.is at (rw c.in-Ok-Some.field-0-is at c.in-Ok-Some.ensures.read)) words in
    rw (sym same.1, sym (c.as_str-in-ServeUntilEof-2.ensures.value ∙ same.3)) (c.run_serve-in-ServeUntilEof.ensures.done done)

pub returns-in-ServeUntilEof-clause-serve_opened : goal.returns-in-ServeUntilEof-clause-serve_opened
returns-in-ServeUntilEof-clause-serve_opened g c until_eof folder socket uid most images words honest told had =
    let same = one_serve c.args.words.now true until_eof c.in-ServeUntilEof.folder folder c.in-ServeUntilEof.socket socket c.in-ServeUntilEof.uid uid c.in-ServeUntilEof.connections most (rw c.in-ServeUntilEof.is at (rw c.in-Ok-Some.field-0-is at c.in-Ok-Some.ensures.read)) words in
    c.run_serve-in-ServeUntilEof.ensures.opened images honest (rw (c.as_str-in-ServeUntilEof.ensures.value ∙ same.0) told) had

pub returns-in-ServeUntilEof-clause-serve_recorded : goal.returns-in-ServeUntilEof-clause-serve_recorded
returns-in-ServeUntilEof-clause-serve_recorded g c until_eof folder socket uid most words =
    let same = one_serve c.args.words.now true until_eof c.in-ServeUntilEof.folder folder c.in-ServeUntilEof.socket socket c.in-ServeUntilEof.uid uid c.in-ServeUntilEof.connections most (rw c.in-ServeUntilEof.is at (rw c.in-Ok-Some.field-0-is at c.in-Ok-Some.ensures.read)) words in
    rw (sym same.1, sym same.2, sym (c.as_str-in-ServeUntilEof.ensures.value ∙ same.0), sym (c.as_str-in-ServeUntilEof-2.ensures.value ∙ same.3)) c.run_serve-in-ServeUntilEof.ensures.served

pub returns-in-ServeUntilEof-clause-untouched : goal.returns-in-ServeUntilEof-clause-untouched
returns-in-ServeUntilEof-clause-untouched g c same = absurd (subst IsServeStatus same c.run_serve-in-ServeUntilEof.ensures.status)

pub returns-in-ServeUntilEof-clause-had_folder : goal.returns-in-ServeUntilEof-clause-had_folder
returns-in-ServeUntilEof-clause-had_folder g c had has = c.run_serve-in-ServeUntilEof.ensures.had_folder had

pub returns-in-ServeUntilEof-clause-loaded : goal.returns-in-ServeUntilEof-clause-loaded
returns-in-ServeUntilEof-clause-loaded g c items number words =
    absurd (load_or_serve c.args.words.now true c.in-ServeUntilEof.folder c.in-ServeUntilEof.socket items number c.in-ServeUntilEof.uid c.in-ServeUntilEof.connections words (rw c.in-ServeUntilEof.is at (rw c.in-Ok-Some.field-0-is at c.in-Ok-Some.ensures.read)))

pub returns-in-ServeUntilEof-clause-check_status : goal.returns-in-ServeUntilEof-clause-check_status
returns-in-ServeUntilEof-clause-check_status g c folder is_asked words =
    absurd (check_or_serve c.args.words.now true folder c.in-ServeUntilEof.folder c.in-ServeUntilEof.socket is_asked c.in-ServeUntilEof.uid c.in-ServeUntilEof.connections words (rw c.in-ServeUntilEof.is at (rw c.in-Ok-Some.field-0-is at c.in-Ok-Some.ensures.read)))

pub returns-in-ServeUntilEof-clause-check_reads : goal.returns-in-ServeUntilEof-clause-check_reads
returns-in-ServeUntilEof-clause-check_reads g c folder is_asked words =
    absurd (check_or_serve c.args.words.now true folder c.in-ServeUntilEof.folder c.in-ServeUntilEof.socket is_asked c.in-ServeUntilEof.uid c.in-ServeUntilEof.connections words (rw c.in-ServeUntilEof.is at (rw c.in-Ok-Some.field-0-is at c.in-Ok-Some.ensures.read)))

pub returns-in-ServeUntilEof-clause-check_writes : goal.returns-in-ServeUntilEof-clause-check_writes
returns-in-ServeUntilEof-clause-check_writes g c folder is_asked words =
    absurd (check_or_serve c.args.words.now true folder c.in-ServeUntilEof.folder c.in-ServeUntilEof.socket is_asked c.in-ServeUntilEof.uid c.in-ServeUntilEof.connections words (rw c.in-ServeUntilEof.is at (rw c.in-Ok-Some.field-0-is at c.in-Ok-Some.ensures.read)))

pub returns-in-ServeUntilEof-clause-checked : goal.returns-in-ServeUntilEof-clause-checked
returns-in-ServeUntilEof-clause-checked g c folder is_asked words =
    absurd (check_or_serve c.args.words.now true folder c.in-ServeUntilEof.folder c.in-ServeUntilEof.socket is_asked c.in-ServeUntilEof.uid c.in-ServeUntilEof.connections words (rw c.in-ServeUntilEof.is at (rw c.in-Ok-Some.field-0-is at c.in-Ok-Some.ensures.read)))

-- the arguments are those of `check`
pub returns-in-Check-clause-usage : goal.returns-in-Check-clause-usage
returns-in-Check-clause-usage g c = (
  λ same. absurd (subst IsCheckStatus same c.run_check.ensures.status),
  λ none. absurd (none (Check c.in-Check.folder c.in-Check.password) (rw c.in-Check.is at (rw c.in-Ok-Some.field-0-is at c.in-Ok-Some.ensures.read))),
)

pub returns-in-Check-clause-untouched : goal.returns-in-Check-clause-untouched
returns-in-Check-clause-untouched g c same = absurd (subst IsCheckStatus same c.run_check.ensures.status)

pub returns-in-Check-clause-unserved : goal.returns-in-Check-clause-unserved
returns-in-Check-clause-unserved g c failed has =
    absurd (no_service c.args.words.now (Check c.in-Check.folder c.in-Check.password) (rw c.in-Check.is at (rw c.in-Ok-Some.field-0-is at c.in-Ok-Some.ensures.read)) (λ none. none) has)

pub returns-in-Check-clause-had_folder : goal.returns-in-Check-clause-had_folder
returns-in-Check-clause-had_folder g c had has =
    absurd (no_service c.args.words.now (Check c.in-Check.folder c.in-Check.password) (rw c.in-Check.is at (rw c.in-Ok-Some.field-0-is at c.in-Ok-Some.ensures.read)) (λ none. none) has)

pub returns-in-Check-clause-listen_fault : goal.returns-in-Check-clause-listen_fault
returns-in-Check-clause-listen_fault g c same = absurd (subst IsCheckStatus same c.run_check.ensures.status)

pub returns-in-Check-clause-opened : goal.returns-in-Check-clause-opened
returns-in-Check-clause-opened g c folder uid images words =
    absurd (check_or_stdio c.args.words.now c.in-Check.folder folder c.in-Check.password uid (rw c.in-Check.is at (rw c.in-Ok-Some.field-0-is at c.in-Ok-Some.ensures.read)) words)

pub returns-in-Check-clause-served : goal.returns-in-Check-clause-served
returns-in-Check-clause-served g c folder uid words =
    absurd (check_or_stdio c.args.words.now c.in-Check.folder folder c.in-Check.password uid (rw c.in-Check.is at (rw c.in-Ok-Some.field-0-is at c.in-Ok-Some.ensures.read)) words)

pub returns-in-Check-clause-complete : goal.returns-in-Check-clause-complete
returns-in-Check-clause-complete g c folder uid bytes words =
    absurd (check_or_stdio c.args.words.now c.in-Check.folder folder c.in-Check.password uid (rw c.in-Check.is at (rw c.in-Ok-Some.field-0-is at c.in-Ok-Some.ensures.read)) words)

pub returns-in-Check-clause-stdio_status : goal.returns-in-Check-clause-stdio_status
returns-in-Check-clause-stdio_status g c folder uid words =
    absurd (check_or_stdio c.args.words.now c.in-Check.folder folder c.in-Check.password uid (rw c.in-Check.is at (rw c.in-Ok-Some.field-0-is at c.in-Ok-Some.ensures.read)) words)

pub returns-in-Check-clause-serve_status : goal.returns-in-Check-clause-serve_status
returns-in-Check-clause-serve_status g c until_eof folder socket uid most words =
    absurd (check_or_serve c.args.words.now until_eof c.in-Check.folder folder socket c.in-Check.password uid most (rw c.in-Check.is at (rw c.in-Ok-Some.field-0-is at c.in-Ok-Some.ensures.read)) words)

pub returns-in-Check-clause-serve_done : goal.returns-in-Check-clause-serve_done
returns-in-Check-clause-serve_done g c until_eof folder socket uid most words =
    absurd (check_or_serve c.args.words.now until_eof c.in-Check.folder folder socket c.in-Check.password uid most (rw c.in-Check.is at (rw c.in-Ok-Some.field-0-is at c.in-Ok-Some.ensures.read)) words)

pub returns-in-Check-clause-serve_opened : goal.returns-in-Check-clause-serve_opened
returns-in-Check-clause-serve_opened g c until_eof folder socket uid most images words =
    absurd (check_or_serve c.args.words.now until_eof c.in-Check.folder folder socket c.in-Check.password uid most (rw c.in-Check.is at (rw c.in-Ok-Some.field-0-is at c.in-Ok-Some.ensures.read)) words)

pub returns-in-Check-clause-serve_complete : goal.returns-in-Check-clause-serve_complete
returns-in-Check-clause-serve_complete g c until_eof folder socket uid most words =
    absurd (check_or_serve c.args.words.now until_eof c.in-Check.folder folder socket c.in-Check.password uid most (rw c.in-Check.is at (rw c.in-Ok-Some.field-0-is at c.in-Ok-Some.ensures.read)) words)

pub returns-in-Check-clause-serve_recorded : goal.returns-in-Check-clause-serve_recorded
returns-in-Check-clause-serve_recorded g c until_eof folder socket uid most words =
    absurd (check_or_serve c.args.words.now until_eof c.in-Check.folder folder socket c.in-Check.password uid most (rw c.in-Check.is at (rw c.in-Ok-Some.field-0-is at c.in-Ok-Some.ensures.read)) words)

pub returns-in-Check-clause-loaded : goal.returns-in-Check-clause-loaded
returns-in-Check-clause-loaded g c items number words =
    absurd (check_or_load c.args.words.now c.in-Check.folder c.in-Check.password items number (rw c.in-Check.is at (rw c.in-Ok-Some.field-0-is at c.in-Ok-Some.ensures.read)) words)

pub returns-in-Check-clause-check_status : goal.returns-in-Check-clause-check_status
returns-in-Check-clause-check_status g c folder is_asked words =
    (c.run_check.ensures.status, c.run_check.ensures.coming, c.run_check.ensures.doors, c.run_check.ensures.unread)

pub returns-in-Check-clause-check_reads : goal.returns-in-Check-clause-check_reads
returns-in-Check-clause-check_reads g c folder is_asked words =
    let same = one_check c.args.words.now c.in-Check.folder folder c.in-Check.password is_asked (rw c.in-Check.is at (rw c.in-Ok-Some.field-0-is at c.in-Ok-Some.ensures.read)) words in
    rw (sym same.1) c.run_check.ensures.reads

pub returns-in-Check-clause-checked : goal.returns-in-Check-clause-checked
returns-in-Check-clause-checked g c folder is_asked words =
    let same = one_check c.args.words.now c.in-Check.folder folder c.in-Check.password is_asked (rw c.in-Check.is at (rw c.in-Ok-Some.field-0-is at c.in-Ok-Some.ensures.read)) words in
    rw (sym same.1, sym (c.as_str-path.ensures.value ∙ same.0)) (none-or-some c.run_check.result.checked (λ one. one.folder) (λ one. one.looked.items) _ _ _ _ _
    c.run_check.ensures.unchecked c.run_check.ensures.given c.run_check.ensures.checks)

-- the arguments are those of `load`
pub returns-in-Load-clause-usage : goal.returns-in-Load-clause-usage
returns-in-Load-clause-usage g c = (
  λ same. absurd (subst IsLoadStatus same c.run_load.ensures.status),
  λ none. absurd (none _ (rw c.in-Load.is at (rw c.in-Ok-Some.field-0-is at c.in-Ok-Some.ensures.read))),
)

pub returns-in-Load-clause-opened : goal.returns-in-Load-clause-opened
returns-in-Load-clause-opened g c folder uid images words =
    absurd (load_or_stdio c.args.words.now folder c.in-Load.items _ uid (rw c.in-Load.is at (rw c.in-Ok-Some.field-0-is at c.in-Ok-Some.ensures.read)) words)

pub returns-in-Load-clause-served : goal.returns-in-Load-clause-served
returns-in-Load-clause-served g c folder uid words =
    absurd (load_or_stdio c.args.words.now folder c.in-Load.items _ uid (rw c.in-Load.is at (rw c.in-Ok-Some.field-0-is at c.in-Ok-Some.ensures.read)) words)

pub returns-in-Load-clause-complete : goal.returns-in-Load-clause-complete
returns-in-Load-clause-complete g c folder uid bytes words =
    absurd (load_or_stdio c.args.words.now folder c.in-Load.items _ uid (rw c.in-Load.is at (rw c.in-Ok-Some.field-0-is at c.in-Ok-Some.ensures.read)) words)

pub returns-in-Load-clause-stdio_status : goal.returns-in-Load-clause-stdio_status
returns-in-Load-clause-stdio_status g c folder uid words =
    absurd (load_or_stdio c.args.words.now folder c.in-Load.items _ uid (rw c.in-Load.is at (rw c.in-Ok-Some.field-0-is at c.in-Ok-Some.ensures.read)) words)

pub returns-in-Load-clause-serve_status : goal.returns-in-Load-clause-serve_status
returns-in-Load-clause-serve_status g c until_eof folder socket uid most words =
    absurd (load_or_serve c.args.words.now until_eof folder socket c.in-Load.items _ uid most (rw c.in-Load.is at (rw c.in-Ok-Some.field-0-is at c.in-Ok-Some.ensures.read)) words)

pub returns-in-Load-clause-serve_done : goal.returns-in-Load-clause-serve_done
returns-in-Load-clause-serve_done g c until_eof folder socket uid most words =
    absurd (load_or_serve c.args.words.now until_eof folder socket c.in-Load.items _ uid most (rw c.in-Load.is at (rw c.in-Ok-Some.field-0-is at c.in-Ok-Some.ensures.read)) words)

pub returns-in-Load-clause-serve_opened : goal.returns-in-Load-clause-serve_opened
returns-in-Load-clause-serve_opened g c until_eof folder socket uid most images words =
    absurd (load_or_serve c.args.words.now until_eof folder socket c.in-Load.items _ uid most (rw c.in-Load.is at (rw c.in-Ok-Some.field-0-is at c.in-Ok-Some.ensures.read)) words)

pub returns-in-Load-clause-serve_complete : goal.returns-in-Load-clause-serve_complete
returns-in-Load-clause-serve_complete g c until_eof folder socket uid most words =
    absurd (load_or_serve c.args.words.now until_eof folder socket c.in-Load.items _ uid most (rw c.in-Load.is at (rw c.in-Ok-Some.field-0-is at c.in-Ok-Some.ensures.read)) words)

pub returns-in-Load-clause-serve_recorded : goal.returns-in-Load-clause-serve_recorded
returns-in-Load-clause-serve_recorded g c until_eof folder socket uid most words =
    absurd (load_or_serve c.args.words.now until_eof folder socket c.in-Load.items _ uid most (rw c.in-Load.is at (rw c.in-Ok-Some.field-0-is at c.in-Ok-Some.ensures.read)) words)

pub returns-in-Load-clause-check_status : goal.returns-in-Load-clause-check_status
returns-in-Load-clause-check_status g c folder is_asked words =
    absurd (check_or_load c.args.words.now folder is_asked c.in-Load.items _ words (rw c.in-Load.is at (rw c.in-Ok-Some.field-0-is at c.in-Ok-Some.ensures.read)))

pub returns-in-Load-clause-check_reads : goal.returns-in-Load-clause-check_reads
returns-in-Load-clause-check_reads g c folder is_asked words =
    absurd (check_or_load c.args.words.now folder is_asked c.in-Load.items _ words (rw c.in-Load.is at (rw c.in-Ok-Some.field-0-is at c.in-Ok-Some.ensures.read)))

pub returns-in-Load-clause-check_writes : goal.returns-in-Load-clause-check_writes
returns-in-Load-clause-check_writes g c folder is_asked words =
    absurd (check_or_load c.args.words.now folder is_asked c.in-Load.items _ words (rw c.in-Load.is at (rw c.in-Ok-Some.field-0-is at c.in-Ok-Some.ensures.read)))

pub returns-in-Load-clause-checked : goal.returns-in-Load-clause-checked
returns-in-Load-clause-checked g c folder is_asked words =
    absurd (check_or_load c.args.words.now folder is_asked c.in-Load.items _ words (rw c.in-Load.is at (rw c.in-Ok-Some.field-0-is at c.in-Ok-Some.ensures.read)))

pub returns-in-Load-clause-untouched : goal.returns-in-Load-clause-untouched
returns-in-Load-clause-untouched g c same = absurd (subst IsLoadStatus same c.run_load.ensures.status)

pub returns-in-Load-clause-unserved : goal.returns-in-Load-clause-unserved
returns-in-Load-clause-unserved g c same has = absurd (subst IsLoadStatus same c.run_load.ensures.status)

pub returns-in-Load-clause-folder_fault : goal.returns-in-Load-clause-folder_fault
returns-in-Load-clause-folder_fault g c same = absurd (subst IsLoadStatus same c.run_load.ensures.status)

pub returns-in-Load-clause-listen_fault : goal.returns-in-Load-clause-listen_fault
returns-in-Load-clause-listen_fault g c same = absurd (subst IsLoadStatus same c.run_load.ensures.status)

pub returns-in-Load-clause-had_folder : goal.returns-in-Load-clause-had_folder
returns-in-Load-clause-had_folder g c had has =
    absurd (no_service c.args.words.now (Load c.in-Load.items _) (rw c.in-Load.is at (rw c.in-Ok-Some.field-0-is at c.in-Ok-Some.ensures.read)) (λ none. none) has)

pub returns-in-Load-clause-loaded : goal.returns-in-Load-clause-loaded
returns-in-Load-clause-loaded g c items number words =
    let same = one_load c.args.words.now c.in-Load.items items _ number (rw c.in-Load.is at (rw c.in-Ok-Some.field-0-is at c.in-Ok-Some.ensures.read)) words in
    (c.run_load.ensures.status, refl, refl, rw (sym same.0, sym same.1) c.run_load.ensures.loads)

-- there are at most 1,000 items
pub run_load-requires-clause-few : goal.run_load-requires-clause-few
run_load-requires-clause-few g c = load-few c.args.words.now c.in-Load.items _ (rw c.in-Load.is at (rw c.in-Ok-Some.field-0-is at c.in-Ok-Some.ensures.read))
