-- A refusal's text is a letter, a field and a line feed: at most 23 bytes. So it stands at the front of the buffer, and what is shown is a front of it.
use Rattle.std.proofs.Common.{◌≡◌, ℕ, ◌≤◌, Bool, true, false, List, [], ◌∷◌, length, take, ap, sym, refl, ◌∙◌, subst, true≢false, length-append, arith}
use Rattle.std.proofs.Math.Seq.{take-append_seam}
use Rattle.std.proofs.lemmas.Bool.{le-leb}
use Rattle.std.specs.declared.option.Option.{Option}
use Rattle.std.specs.Io.KnownBytes.{Appends}
use Rattle.text.specs.Lines.{fields_text, feed}
use Rattle.text.specs.Stretches.{Prints, PrintsRefusal, refusal_text}
use Rattle.text.proofs.Runs.{fields_most}
use Rattle.console.specs.Streams.{Refuses, WritesFront}
use Rattle.console.proofs.refuse.Goals as goal

room : (n : ℕ) → length (refusal_text n) ≤ 32
room n = omega (arith, length-append (fields_text (n ∷ [])) (feed ∷ []), fields_most (n ∷ []))

printed : (ok : Bool) (t dst dst' : List ℕ) (r : ℕ) → ok ≡ true → Prints ok t dst dst' r → take r dst' ≡ t
printed true t dst dst' r e p = ap (λ n. take n dst') p.bytes ∙ ap (take (length t)) p.written ∙ take-append_seam t _
printed false t dst dst' r e p = absurd (true≢false (sym e))

refused : (known known' : Option (List ℕ)) (n m : ℕ) (dst dst' : List ℕ) (r : ℕ) (done : Bool) → m ≡ n → length dst ≡ 32 → PrintsRefusal m dst dst' r
    → WritesFront known known' (take r dst') done → Refuses known known' n
refused known known' n m dst dst' r done same long text front =
    let fits : length (refusal_text m) ≤ length dst = omega (arith, room m) in
    let is = printed _ _ dst dst' r (le-leb _ _ fits) text.text ∙ ap refusal_text same in
    record { room = room n; front = (front.written.0, subst (λ t. Appends known known' (take front.written.0 t)) is front.written.2) }

pub returns : goal.returns
returns g c = refused _ _ _ _ _ _ _ _ c.from.ensures refl c.refusal_text-n.ensures c.show.ensures.front
