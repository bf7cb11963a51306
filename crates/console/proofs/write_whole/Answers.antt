-- What a write took of the rest goes to what is done.
use Rattle.std.proofs.Common.{◌≡◌, ℕ, ◌+◌, ◌-◌, true≢false, ◌≤◌, List, ◌++◌, rules, arith, length, take, drop, sym, ap, ◌∙◌, subst, append_assoc, length-append, take-append-drop}
use Rattle.std.proofs.Math.Seq.{take-append_seam}
use Rattle.std.proofs.lemmas.List.{take_rest}
use Rattle.std.specs.Io.KnownBytes.{Appends}
use Rattle.std.proofs.KnownBytes.{Appends-trans, Appends-kept}
use Rattle.console.proofs.write_whole.Goals as goal

moves_front : (all done rest : List ℕ) (n : ℕ) → all ≡ done ++ rest → all ≡ (done ++ take n rest) ++ take (length rest - n) (drop n rest)
moves_front all done rest n e =
    e ∙ ap (λ l. done ++ l) (sym (take-append-drop n rest)) ∙ sym (append_assoc done (take n rest) (drop n rest)) ∙ ap (λ l. (done ++ take n rest) ++ l) (sym (take_rest rest n))

done_front : (all done rest : List ℕ) → all ≡ done ++ rest → take (length done) all ≡ done
done_front all done rest e = ap (take (length done)) e ∙ take-append_seam done rest

done_within : (all done rest : List ℕ) → all ≡ done ++ rest → length done + length rest ≡ length all
done_within all done rest e = sym (length-append done rest) ∙ ap length (sym e)

pub loop-rest-preserved : goal.loop-rest-preserved
loop-rest-preserved g c =
    let (done, split, written) = c.loop-rest.invariant in
    (done ++ take c.in-Some.n c.loop-rest.rest.now, moves_front _ done _ _ split, Appends-trans _ _ _ _ _ written c.in-Some.ensures.written)

pub returns-in_default : goal.returns-in_default
returns-in_default g c =
    let (done, split, written) = c.loop-rest.invariant in
    let within = done_within _ done _ split in
    let kept = Appends-kept _ _ _ _ written c.in_default.ensures.failed in
    record { written = (length done, omega arith, subst (Appends _ _) (sym (done_front _ done _ split)) kept, λ e. absurd (true≢false (sym e))) }

pub returns : goal.returns
returns g c =
    let (done, split, written) = c.loop-rest.invariant in
    let within = done_within _ done _ split in
    let none : length c.loop-rest.rest.now ≤ 0 = search rules in
    record { written = (length done, omega arith, subst (Appends _ _) (sym (done_front _ done _ split)) written, λ e. omega arith) }
