-- send_to: what its result says of the packets that were sent.
use Rattle.std.proofs.Common.{◌∙◌, ap, subst}
use Rattle.flutejoin.specs.Sending.{ReadFailures}
use Rattle.flutejoin.proofs.carousel_lemmas.SentObjects.{sent_of, told_sent, told_failed}
use Rattle.flutejoin.proofs.carousel_lemmas.SentObjects.{told_failed_write}
use Rattle.flutejoin.proofs.carousel_lemmas.SentReads.{told_reads}
use Rattle.flutejoin.proofs.carousel.send_to.Goals as goal

pub returns-clause-sent : goal.returns-clause-sent
returns-clause-sent g c =
    let sent = c.send_symbols-sent in
    let new = c.new-sending.ensures in
    told_sent _ c.at_end-2.ensures.ends
    (sent_of (new.key, new.info, new.left ∙ ap (λ i. i.transfer_length) c.in-Ok.ensures.0)
    c.in-Ok.ensures.0 c.in-Ok.ensures.1 sent.ensures.reads sent.ensures.sends)

pub returns-clause-failed : goal.returns-clause-failed
returns-clause-failed g c =
    let sent = c.send_symbols-sent in
    let new = c.new-sending.ensures in
    told_failed _ c.at_end-2.ensures.ends
    (sent_of (new.key, new.info, new.left ∙ ap (λ i. i.transfer_length) c.in-Ok.ensures.0)
    c.in-Ok.ensures.0 c.in-Ok.ensures.1 sent.ensures.reads sent.ensures.sends) sent.ensures.only

pub returns-clause-part : goal.returns-clause-part
returns-clause-part g c =
    let sent = c.send_symbols-sent in
    let new = c.new-sending.ensures in
    told_failed_write _ c.at_end-2.ensures.ends
    (sent_of (new.key, new.info, new.left ∙ ap (λ i. i.transfer_length) c.in-Ok.ensures.0)
    c.in-Ok.ensures.0 c.in-Ok.ensures.1 sent.ensures.reads sent.ensures.sends)

pub returns-clause-reads : goal.returns-clause-reads
returns-clause-reads g c =
    let sent = c.send_symbols-sent in
    let new = c.new-sending.ensures in
    let so_far = sent_of
    (new.key, new.info, new.left ∙ ap (λ i. i.transfer_length) c.in-Ok.ensures.0) c.in-Ok.ensures.0
    c.in-Ok.ensures.1 sent.ensures.reads sent.ensures.sends in told_reads _ _ _ _
    c.at_end-2.ensures.ends (subst (λ n. ReadFailures (g.R.Source.failures c.args.source.now)
    (g.R.Source.failures sent.new.source) (g.R.Source.unread c.args.source.now) n sent.result)
    (new.left ∙ ap (λ i. i.transfer_length) c.in-Ok.ensures.0) sent.ensures.reading) so_far
    c.at_end-2.ensures.reads
