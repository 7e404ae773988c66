use Rattle.std.proofs.Common.{◌⊎◌, ◌+◌, ◌++◌, ◌∙◌, None, inr, arith}
use Rattle.std.proofs.lemmas.List.{length-append, length-drop, length-take}
use Rattle.std.proofs.KnownBytes.{Consumes-trans}
use Rattle.fdb_command.specs.private.Taking.{IsFailure, MayStop}
use Rattle.fdb_command.proofs.Pieces.{passed_on, put_on, stops_begun, stops_telling, stops_there, stops_unread, taken_whole, takes_more, told_last, told_so_far, on_error}
use Rattle.fdb_command.proofs.intake.Taker.take_all.Goals as goal

pub returns-then-is_err-clause-stops : goal.returns-then-is_err-clause-stops
returns-then-is_err-clause-stops g c = inr (stops_unread g.P.Program.promise c.args.self.now.options.now (g.I.Read.remaining c.args.input.now))

pub returns-in_err-begun-clause-stops : goal.returns-in_err-begun-clause-stops
returns-in_err-begun-clause-stops g c =
    let fault = c.in_err-begun.field-0.0 in
    passed_on c.from_residual.result fault (λ fault. IsFailure fault ⊎ MayStop g.P.Program.promise c.args.self.now.options.now None (g.I.Read.remaining c.args.input.now) fault) c.from_residual.ensures.1
    (stops_begun g.P.Program.promise c.args.self.now.options.now (g.I.Read.remaining c.args.input.now) fault c.in_err-begun.ensures.stops)

pub returns-in_err-piece-clause-stops : goal.returns-in_err-piece-clause-stops
returns-in_err-piece-clause-stops g c =
    let (bytes, told, counted, gone, taken, put) = c.loop.invariant.taken in
    let fault = c.in_err-piece.field-0.0 in
    passed_on c.from_residual-in_err-piece.result fault (λ fault. IsFailure fault ⊎ MayStop g.P.Program.promise c.args.self.now.options.now None (g.I.Read.remaining c.args.input.now) fault) c.from_residual-in_err-piece.ensures.1
    (stops_there g.P.Program.promise c.args.self.now.options.now (g.I.Read.remaining c.args.input.now) (g.I.Read.remaining c.loop.input) (g.I.Read.remaining c.take_piece.new.input) c.loop.intake bytes told _ fault gone taken c.in_err-piece.ensures.stops)

pub returns-in_err-piece-clause-begun : goal.returns-in_err-piece-clause-begun
returns-in_err-piece-clause-begun g c =
    let (bytes, told, counted, gone, taken, put) = c.loop.invariant.taken in
    on_error c.from_residual-in_err-piece.result
    (told_so_far g.P.Program.promise c.args.self.now.options.now (g.I.Read.remaining c.args.input.now) (g.I.Read.remaining c.loop.input) g.O.Write.contents c.args.out.now c.loop.out c.loop.intake bytes told (omega (arith, counted, c.most-most.ensures)) gone taken put)

pub returns-in_err-piece-clause-few : goal.returns-in_err-piece-clause-few
returns-in_err-piece-clause-few g c =
    let (bytes, told, counted, gone, taken, put) = c.loop.invariant.taken in
    let at = c.in_err-piece.ensures.stops in
    takes_more (g.I.Read.remaining c.args.input.now) (g.I.Read.remaining c.loop.input) (g.I.Read.remaining c.take_piece.new.input) bytes _ (g.P.Program.promise.most + 1) (omega (arith, counted, c.most-most.ensures, c.room_at-asked.ensures.few, length-take c.room_at-asked.result c.loop.room)) gone (at.bytes, at.few, at.gone)

pub returns-in_err-piece-clause-quiet : goal.returns-in_err-piece-clause-quiet
returns-in_err-piece-clause-quiet g c = c.loop.invariant.quiet

pub returns-then-count-most-clause-begun : goal.returns-then-count-most-clause-begun
returns-then-count-most-clause-begun g c =
    let (bytes, told, counted, gone, taken, put) = c.loop.invariant.taken in
    told_so_far g.P.Program.promise c.args.self.now.options.now (g.I.Read.remaining c.args.input.now) (g.I.Read.remaining c.loop.input) g.O.Write.contents c.args.out.now c.loop.out c.loop.intake bytes told (omega (arith, counted, c.most-most.ensures)) gone taken put

pub returns-then-count-most-clause-few : goal.returns-then-count-most-clause-few
returns-then-count-most-clause-few g c =
    let (bytes, told, counted, gone, taken, put) = c.loop.invariant.taken in
    let (short, on) = c.in_ok-piece.ensures.taken in
    takes_more (g.I.Read.remaining c.args.input.now) (g.I.Read.remaining c.loop.input) (g.I.Read.remaining c.take_piece.new.input) bytes c.in_ok-piece.piece.count (g.P.Program.promise.most + 1) (omega (arith, counted, c.most-most.ensures, c.room_at-asked.ensures.few, short, length-take c.room_at-asked.result c.loop.room)) gone (on.bytes, omega (arith, on.counted), on.gone)

pub returns-then-count-most-clause-quiet : goal.returns-then-count-most-clause-quiet
returns-then-count-most-clause-quiet g c = c.loop.invariant.quiet

pub returns-in_err-last-clause-stops : goal.returns-in_err-last-clause-stops
returns-in_err-last-clause-stops g c =
    let fault = c.in_err-last.field-0.0 in
    passed_on c.from_residual-in_err-last.result fault (λ fault. IsFailure fault ⊎ MayStop g.P.Program.promise c.args.self.now.options.now None (g.I.Read.remaining c.args.input.now) fault) c.from_residual-in_err-last.ensures.1
    (stops_telling g.P.Program.promise c.args.self.now.options.now (g.I.Read.remaining c.args.input.now) fault c.in_err-last.ensures.stops)

pub returns-in_err-last-clause-begun : goal.returns-in_err-last-clause-begun
returns-in_err-last-clause-begun g c =
    let (bytes, told, counted, gone, taken, put) = c.loop.invariant.taken in
    let (short, on) = c.in_ok-piece.ensures.taken in
    on_error c.from_residual-in_err-last.result
    (told_last g.P.Program.promise c.args.self.now.options.now (g.I.Read.remaining c.args.input.now) (g.I.Read.remaining c.take_piece.new.input) g.O.Write.contents c.args.out.now c.loop.out c.write_told.new.out c.in_ok-piece.piece.intake (bytes ++ on.bytes) told
    (omega (arith, length-append bytes on.bytes, counted, on.counted, c.most-most.ensures))
    (Consumes-trans (g.I.Read.remaining c.args.input.now) (g.I.Read.remaining c.loop.input) (g.I.Read.remaining c.take_piece.new.input) bytes on.bytes gone on.gone) (on.taken c.args.self.now.options.now bytes told taken) put c.in_err-last.ensures.begun)

pub returns-in_err-last-clause-few : goal.returns-in_err-last-clause-few
returns-in_err-last-clause-few g c =
    let (bytes, told, counted, gone, taken, put) = c.loop.invariant.taken in
    let (short, on) = c.in_ok-piece.ensures.taken in
    takes_more (g.I.Read.remaining c.args.input.now) (g.I.Read.remaining c.loop.input) (g.I.Read.remaining c.take_piece.new.input) bytes c.in_ok-piece.piece.count (g.P.Program.promise.most + 1) (omega (arith, counted, c.most-most.ensures, c.room_at-asked.ensures.few, short, length-take c.room_at-asked.result c.loop.room)) gone (on.bytes, omega (arith, on.counted), on.gone)

pub returns-in_err-last-clause-quiet : goal.returns-in_err-last-clause-quiet
returns-in_err-last-clause-quiet g c = λ arguments asks tells warns. c.write_told.ensures.quiet arguments asks warns ∙ (c.tell_end.ensures arguments asks tells ∙ c.loop.invariant.quiet arguments asks tells warns)

pub returns-then-piece-clause-all : goal.returns-then-piece-clause-all
returns-then-piece-clause-all g c =
    let (bytes, told, counted, gone, taken, put) = c.loop.invariant.taken in
    let (short, on) = c.in_ok-piece.ensures.taken in
    let more = c.in_ok-last.ensures.told in
    taken_whole g.P.Program.promise c.args.self.now.options.now (g.I.Read.remaining c.args.input.now) (g.I.Read.remaining c.take_piece.new.input) g.O.Write.contents c.args.out.now c.write_told.new.out c.in_ok-last.last (bytes ++ on.bytes) (told ++ more.text)
    (omega (arith, length-append bytes on.bytes, counted, on.counted, c.most-most.ensures))
    (Consumes-trans (g.I.Read.remaining c.args.input.now) (g.I.Read.remaining c.loop.input) (g.I.Read.remaining c.take_piece.new.input) bytes on.bytes gone on.gone) (c.in_ok-piece.ensures.last c.if-piece.true)
    (more.told (bytes ++ on.bytes) told (on.taken c.args.self.now.options.now bytes told taken))
    (put_on g.O.Write.contents told more.text c.args.out.now c.loop.out c.write_told.new.out put more.put)

pub returns-then-piece-clause-few : goal.returns-then-piece-clause-few
returns-then-piece-clause-few g c =
    let (bytes, told, counted, gone, taken, put) = c.loop.invariant.taken in
    let (short, on) = c.in_ok-piece.ensures.taken in
    takes_more (g.I.Read.remaining c.args.input.now) (g.I.Read.remaining c.loop.input) (g.I.Read.remaining c.take_piece.new.input) bytes c.in_ok-piece.piece.count (g.P.Program.promise.most + 1) (omega (arith, counted, c.most-most.ensures, c.room_at-asked.ensures.few, short, length-take c.room_at-asked.result c.loop.room)) gone (on.bytes, omega (arith, on.counted), on.gone)

pub returns-then-piece-clause-quiet : goal.returns-then-piece-clause-quiet
returns-then-piece-clause-quiet g c = λ arguments asks tells warns. c.write_told.ensures.quiet arguments asks warns ∙ (c.tell_end.ensures arguments asks tells ∙ c.loop.invariant.quiet arguments asks tells warns)

pub returns-in_err-intake-clause-stops : goal.returns-in_err-intake-clause-stops
returns-in_err-intake-clause-stops g c =
    let fault = c.in_err-intake.field-0.0 in
    passed_on c.from_residual-in_err-intake.result fault (λ fault. IsFailure fault ⊎ MayStop g.P.Program.promise c.args.self.now.options.now None (g.I.Read.remaining c.args.input.now) fault) c.from_residual-in_err-intake.ensures.1
    (stops_telling g.P.Program.promise c.args.self.now.options.now (g.I.Read.remaining c.args.input.now) fault c.in_err-intake.ensures.stops)

pub returns-in_err-intake-clause-begun : goal.returns-in_err-intake-clause-begun
returns-in_err-intake-clause-begun g c =
    let (bytes, told, counted, gone, taken, put) = c.loop.invariant.taken in
    let (short, on) = c.in_ok-piece.ensures.taken in
    on_error c.from_residual-in_err-intake.result
    (told_last g.P.Program.promise c.args.self.now.options.now (g.I.Read.remaining c.args.input.now) (g.I.Read.remaining c.take_piece.new.input) g.O.Write.contents c.args.out.now c.loop.out c.tell_piece.new.out c.in_ok-piece.piece.intake (bytes ++ on.bytes) told
    (omega (arith, length-append bytes on.bytes, counted, on.counted, c.most-most.ensures))
    (Consumes-trans (g.I.Read.remaining c.args.input.now) (g.I.Read.remaining c.loop.input) (g.I.Read.remaining c.take_piece.new.input) bytes on.bytes gone on.gone) (on.taken c.args.self.now.options.now bytes told taken) put c.in_err-intake.ensures.begun)

pub returns-in_err-intake-clause-few : goal.returns-in_err-intake-clause-few
returns-in_err-intake-clause-few g c =
    let (bytes, told, counted, gone, taken, put) = c.loop.invariant.taken in
    let (short, on) = c.in_ok-piece.ensures.taken in
    takes_more (g.I.Read.remaining c.args.input.now) (g.I.Read.remaining c.loop.input) (g.I.Read.remaining c.take_piece.new.input) bytes c.in_ok-piece.piece.count (g.P.Program.promise.most + 1) (omega (arith, counted, c.most-most.ensures, c.room_at-asked.ensures.few, short, length-take c.room_at-asked.result c.loop.room)) gone (on.bytes, omega (arith, on.counted), on.gone)

pub returns-in_err-intake-clause-quiet : goal.returns-in_err-intake-clause-quiet
returns-in_err-intake-clause-quiet g c = λ arguments asks tells warns. c.tell_piece.ensures.quiet arguments asks warns ∙ (c.tell_stride.ensures arguments asks tells ∙ c.loop.invariant.quiet arguments asks tells warns)

pub loop-preserved : goal.loop-preserved
loop-preserved g c =
    let (bytes, told, counted, gone, taken, put) = c.loop.invariant.taken in
    let (short, on) = c.in_ok-piece.ensures.taken in
    let more = c.in_ok-intake.ensures.told in
    record {
      in_range = omega arith;
      room = simp (length-append, length-drop) (omega (arith, c.take_piece.ensures.room, length-take c.room_at-asked.result c.loop.room));
      taken = (
        bytes ++ on.bytes,
        told ++ more.text,
        omega (arith, length-append bytes on.bytes, counted, on.counted),
        Consumes-trans (g.I.Read.remaining c.args.input.now) (g.I.Read.remaining c.loop.input) (g.I.Read.remaining c.take_piece.new.input) bytes on.bytes gone on.gone,
        more.told (bytes ++ on.bytes) told (on.taken c.args.self.now.options.now bytes told taken),
        put_on g.O.Write.contents told more.text c.args.out.now c.loop.out c.tell_piece.new.out put more.put,
      );
      quiet = λ arguments asks tells warns. c.tell_piece.ensures.quiet arguments asks warns ∙ (c.tell_stride.ensures arguments asks tells ∙ c.loop.invariant.quiet arguments asks tells warns);
    }

pub returns-clause-begun : goal.returns-clause-begun
returns-clause-begun g c =
    let (bytes, told, counted, gone, taken, put) = c.loop.invariant.taken in
    told_so_far g.P.Program.promise c.args.self.now.options.now (g.I.Read.remaining c.args.input.now) (g.I.Read.remaining c.loop.input) g.O.Write.contents c.args.out.now c.loop.out c.loop.intake bytes told (omega (arith, counted, c.most-most.ensures)) gone taken put

pub returns-clause-quiet : goal.returns-clause-quiet
returns-clause-quiet g c = c.loop.invariant.quiet

pub returns-clause-few : goal.returns-clause-few
returns-clause-few g c =
    let (bytes, told, counted, gone, taken, put) = c.loop.invariant.taken in
    (bytes, omega (arith, counted, c.most-most.ensures), gone)
