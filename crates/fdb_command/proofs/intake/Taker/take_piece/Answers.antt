use Rattle.std.proofs.Common.{◌≡◌, ℕ, ◌≤◌, List, [], ◌++◌, ◌⊎◌, inl, inr, length, refl, sym, subst, take, arith}
use Rattle.clap.specs.Words.{Text}
use Rattle.fdb_command.specs.Driving.{Promise, Stops}
use Rattle.fdb_command.specs.declared.failure.Failure.{Failure}
use Rattle.fdb_command.specs.declared.failure.Failure.TheVariants.{Reading, Memory}
use Rattle.std.proofs.lemmas.List.{length-take}
use Rattle.std.proofs.KnownBytes.{Consumes-kept, Consumes-nil}
use Rattle.fdb_command.proofs.Pieces.{passed_on, takes_nothing}
use Rattle.fdb_command.specs.private.Taking.{StopsAt}
use Rattle.fdb_command.proofs.intake.Taker.take_piece.Goals as goal

-- so many of the bytes in the room
counted : (count : ℕ) (room : List ℕ) → count ≤ length room → length (take count room) ≡ count
counted count room within = omega (arith, length-take count room)

pub returns-in_default-clause-taken : goal.returns-in_default-clause-taken
returns-in_default-clause-taken g c =
    let kept = rw c.in_default.is at c.in_ok-count.ensures.came in
    (omega arith, takes_nothing g.P.Program.promise c.args.intake 0 _ _ [] refl refl (Consumes-kept _ _ _ _ (Consumes-nil _) kept))

pub returns-then-count-eq0-clause-taken : goal.returns-then-count-eq0-clause-taken
returns-then-count-eq0-clause-taken g c =
    let (within, gone, end) = rw c.in-Some.is at c.in_ok-count.ensures.came in
    let count = c.in-Some.count in
    let room = c.read_piece.new.room in
    (omega (arith, within, c.read_piece.ensures.room), takes_nothing g.P.Program.promise c.args.intake count _ _ (take count room) c.if-count-eq0.true (counted count room within) gone)

pub returns-clause-taken : goal.returns-clause-taken
returns-clause-taken g c =
    let (within, gone, end) = rw c.in-Some.is at c.in_ok-count.ensures.came in
    let count = c.in-Some.count in
    let room = c.read_piece.new.room in
    (omega (arith, within, c.read_piece.ensures.room), record { bytes = take count room; counted = counted count room within; gone = gone; taken = c.in_ok-intake.ensures.taken })

pub returns-in_err-intake-clause-stops : goal.returns-in_err-intake-clause-stops
returns-in_err-intake-clause-stops g c =
    let (within, gone, end) = rw c.in-Some.is at c.in_ok-count.ensures.came in
    let count = c.in-Some.count in
    let room = c.read_piece.new.room in
    passed_on c.from_residual-in_err-intake.result c.in_err-intake.field-0.0 (StopsAt g.P.Program.promise c.args.intake (length c.args.room.now) (g.I.Read.remaining c.args.input.now) (g.I.Read.remaining c.read_piece.new.input))
    c.from_residual-in_err-intake.ensures.1
    (record { bytes = take count room; few = omega (arith, counted count room within, c.read_piece.ensures.room, within); gone = gone; stops = inr c.in_err-intake.ensures.stops })

-- memory may be refused at any bytes
unread : {O I E F : Type 0} (program : Promise O I E F) (intake : I) (fault : Failure E F) → (fault ≡ Reading) ⊎ (fault ≡ Memory)
    → (fault ≡ Reading) ⊎ ((arguments : List Text) (options : O) (so_far told rest : List ℕ) → program.asks arguments options → program.taken options intake so_far told → Stops program arguments (so_far ++ ([] ++ rest)) fault)
unread program intake fault (inl reading) = inl reading
unread program intake fault (inr memory) = inr (λ arguments options so_far told rest asks taken. subst (Stops program arguments (so_far ++ ([] ++ rest))) (sym memory) tt)

-- where nothing could be read, nothing is gone
pub returns-in_err-count-clause-stops : goal.returns-in_err-count-clause-stops
returns-in_err-count-clause-stops g c =
    passed_on c.from_residual.result c.in_err-count.field-0.0 (StopsAt g.P.Program.promise c.args.intake (length c.args.room.now) (g.I.Read.remaining c.args.input.now) (g.I.Read.remaining c.read_piece.new.input))
    c.from_residual.ensures.1
    (record { bytes = []; few = omega arith; gone = Consumes-kept _ _ _ _ (Consumes-nil _) c.in_err-count.ensures.failed; stops = unread g.P.Program.promise c.args.intake _ c.in_err-count.ensures.kinds })
