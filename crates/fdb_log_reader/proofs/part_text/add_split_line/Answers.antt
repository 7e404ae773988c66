use Rattle.std.proofs.Common.{◌∙◌, ◌++◌, List, ℕ, ap, append_assoc, codes}
use Rattle.fdb_log_reader.proofs.part_text.add_split_line.Goals as goal

pub returns : goal.returns
returns c =
    let before = c.args.text.now.items in
    let name = codes ",\"split_line\":" in
    c.in_ok-extend_from_slice-2.ensures.items
    ∙ (ap (λ (text : List ℕ). text ++ c.as_bytes.result.now) c.in_ok-extend_from_slice.ensures.items
    ∙ (append_assoc before name c.as_bytes.result.now
    ∙ ap (λ (digits : List ℕ). before ++ (name ++ digits)) (c.as_bytes.ensures.value ∙ c.format.ensures.text)))
