use Rattle.std.proofs.Common.{◌∙◌, ◌++◌, List, ℕ, ap, append_assoc, sym}
use Rattle.fdb_log_reader.specs.Split.{split_line_member, with_behind}
use Rattle.fdb_log_reader.proofs.Braces.{in_front_of_brace, without_brace}
use Rattle.fdb_log_reader.proofs.part_text.add_with_split_line.Goals as goal

pub returns-in_ok-extend_from_slice-in-Some-2 : goal.returns-in_ok-extend_from_slice-in-Some-2
returns-in_ok-extend_from_slice-in-Some-2 c =
    let before = c.args.text.now.items in
    let front = c.in-Some.front.now in
    let behind = c.in-Some.behind.now in
    let (rest, is, brace, none) = c.in-Some.ensures in
    let member = split_line_member c.args.split_line in
    c.in_ok-extend_from_slice-in-Some-2.ensures.items
    ∙ (ap (λ (text : List ℕ). text ++ behind) (c.in_ok-add_split_line-in-Some.ensures ∙ ap (λ (text : List ℕ). text ++ member) c.in_ok-extend_from_slice-in-Some.ensures.items)
    ∙ (append_assoc (before ++ front) member behind
    ∙ (append_assoc before front (member ++ behind)
    ∙ (ap (λ (text : List ℕ). before ++ (front ++ (member ++ text))) brace
    ∙ (ap (λ (text : List ℕ). before ++ text) (sym (in_front_of_brace member front rest none))
    ∙ ap (λ (line : List ℕ). before ++ with_behind member line) (ap (λ (text : List ℕ). front ++ text) (sym brace) ∙ sym is))))))

pub returns-in_ok-extend_from_slice-in-None : goal.returns-in_ok-extend_from_slice-in-None
returns-in_ok-extend_from_slice-in-None c =
    c.in_ok-extend_from_slice-in-None.ensures.items
    ∙ ap (λ (text : List ℕ). c.args.text.now.items ++ text) (sym (without_brace (split_line_member c.args.split_line) c.args.line.now c.in-None.ensures))
