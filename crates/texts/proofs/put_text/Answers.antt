use Rattle.std.proofs.Common.{◌≡◌, ◌+◌, ◌-◌, ◌≤◌, length, refl, arith, append_assoc}
use Rattle.std.proofs.lemmas.List.Edits.{sets-eq}
use Rattle.std.proofs.Math.Seq.{drop-drop}
use Rattle.texts.proofs.put_text.Goals as goal

pub returns : goal.returns
returns c =
    let e : c.args.at + length c.args.text.now - c.args.at ≡ length c.args.text.now = omega arith in
    let h : c.args.at + length c.args.text.now ≤ length c.args.out.now = omega arith in
    record { ends = refl; within = h; holds = simp (c.copy_from_slice.ensures.after, e, sets-eq, drop-drop, append_assoc) }
