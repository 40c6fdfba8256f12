use Rattle.std.proofs.Common.{◌∙◌, ap, sym, option_map}
use Rattle.bidi_why.specs.Conversing.{place_of, without_at}
use Rattle.bidi_why.specs.Explainers.{all_kept_in, kept_in}
use Rattle.bidi_why.proofs.KeptLemmas.{remove-map}
use Rattle.bidi_why.proofs.ids.remove_first.Goals as goal

pub returns-in-Some : goal.returns-in-Some
returns-in-Some c =
    ap all_kept_in c.remove.ensures.items ∙ sym (remove-map kept_in c.args.answers.now.items c.in-Some.i)
    ∙ ap (λ o. without_at o (all_kept_in c.args.answers.now.items))
    (c.in-Some.ensures.place ∙ ap (λ l. place_of (option_map (λ n. n.value) c.args.id) (all_kept_in l)) c.deref.ensures.value)

pub returns-in_default : goal.returns-in_default
returns-in_default c =
    ap (λ o. without_at o (all_kept_in c.args.answers.now.items))
    (c.in_default.ensures.place ∙ ap (λ l. place_of (option_map (λ n. n.value) c.args.id) (all_kept_in l)) c.deref.ensures.value)
