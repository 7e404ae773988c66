use Rattle.std.proofs.Common.{◌≡◌, [], ◌∷◌, List, MatchOption, None, Option, Some, Result, append-nil, refl, subst, sym}
use Rattle.fdb_log_reader.specs.declared.error.Why.{Why}
use Rattle.fdb_log_reader.specs.declared.read_line.ReadLine.{ReadLine}
use Rattle.fdb_log_reader.specs.LineReader.{line_names}
use Rattle.fdb_log_reader.specs.ReadLine.{IsNumbered, SaidLine, said_by, said_in}
use Rattle.std.specs.Prelude.{IfOk, IfSome}
use Rattle.std.proofs.lemmas.List.Elements.{All-cons, All-nil}
use Rattle.fdb_audit.proofs.InTurn.{named_in}
use Rattle.fdb_audit.specs.Recent.{KnowsTimes}
use Rattle.fdb_audit.specs.private.Followed.{AreTaken, HasWarned}
use Rattle.fdb_audit.proofs.SaidOn.{said_last}
use Rattle.fdb_audit.proofs.TellingOn.{ended}
use Rattle.fdb_audit.proofs.follower.Follower.take_last.Goals as goal

of_one : (left : List (Result SaidLine Why)) (last : Option (Result ReadLine Why)) (read : Result ReadLine Why) → last ≡ Some read
    → MatchOption last (left ≡ []) (λ read. left ≡ said_in read ∷ []) → left ≡ said_in read ∷ []
of_one left last read is found = subst (λ last. MatchOption last (left ≡ []) (λ read. left ≡ said_in read ∷ [])) is found

pub returns-in_ok-take-clause-told : goal.returns-in_ok-take-clause-told
returns-in_ok-take-clause-told c = λ asked start bytes told has.
    ended start asked c.args.self.now _ bytes told (said_in c.in-Some.last ∷ []) has
    (of_one _ c.in_ok-last.last c.in-Some.last c.in-Some.is c.in_ok-last.ensures.read)
    c.in_ok-last.ensures.names
    (named_in (c.in-Some.last ∷ []) (line_names c.finish.new.self)
    (All-cons (λ read. IfOk read (λ read. IsNumbered (line_names c.finish.new.self) (said_by read))) c.in-Some.last []
    (subst (λ last. IfSome last (λ read. IfOk read (λ read. IsNumbered (line_names c.finish.new.self) (said_by read)))) c.in-Some.is c.in_ok-last.ensures.numbers)
    (All-nil (λ read. IfOk read (λ read. IsNumbered (line_names c.finish.new.self) (said_by read))))))
    (c.in_ok-take.ensures.takes.taken start) (c.in_ok-take.ensures.takes.times asked.forget start) c.in_ok-take.ensures.takes.stays c.take.ensures.beside.margin c.take.ensures.beside.settlings refl refl refl

of_none : (left : List (Result SaidLine Why)) (last : Option (Result ReadLine Why)) → ((read : Result ReadLine Why) → last ≡ Some read → ⊥)
    → MatchOption last (left ≡ []) (λ read. left ≡ said_in read ∷ []) → left ≡ []
of_none left None not found = found
of_none left (Some read) not found = absurd (not read refl)

pub returns-in_default-clause-told : goal.returns-in_default-clause-told
returns-in_default-clause-told c = λ asked start bytes told has.
    ended start asked c.args.self.now _ bytes told [] has
    (of_none _ c.in_ok-last.last c.in_default.not-Some c.in_ok-last.ensures.read)
    c.in_ok-last.ensures.names (named_in [] (line_names c.finish.new.self) (All-nil (λ read. IfOk read (λ read. IsNumbered (line_names c.finish.new.self) (said_by read)))))
    (λ read told is. subst (λ all. AreTaken start c.args.self.now.taking all told) (sym (append-nil read)) is)
    (λ read told is knows. subst (λ all. KnowsTimes asked.forget start c.args.self.now.taking.times all) (sym (append-nil read)) knows) (record { horizon = refl; far = λ key. refl }) refl refl refl refl refl

pub returns-in_ok-take-clause-said : goal.returns-in_ok-take-clause-said
returns-in_ok-take-clause-said c = λ asked start bytes warned has.
    said_last start asked c.args.self.now c.take.new.self bytes warned (said_in c.in-Some.last ∷ []) has
    (of_one _ c.in_ok-last.last c.in-Some.last c.in-Some.is c.in_ok-last.ensures.read)
    (c.in_ok-take.ensures.takes.taken start) (c.in_ok-take.ensures.takes.warned start)

pub returns-in_default-clause-said : goal.returns-in_default-clause-said
returns-in_default-clause-said c = λ asked start bytes warned has.
    let taking = c.args.self.now.taking in
    said_last start asked c.args.self.now taking bytes warned [] has
    (of_none _ c.in_ok-last.last c.in_default.not-Some c.in_ok-last.ensures.read)
    (λ read told is. subst (λ all. AreTaken start taking all told) (sym (append-nil read)) is)
    (λ read told warned are is. subst (λ all. HasWarned start taking all warned) (sym (append-nil read)) is)
