use Rattle.std.proofs.Common.{inl, inr, arith}
use Rattle.scoop_book.proofs.node.Node.reopen_limited.Goals as goal

pub returns-in-Ok-share-clause-reopened : goal.returns-in-Ok-share-clause-reopened
returns-in-Ok-share-clause-reopened g c = record {
  opened = record {
    opening = c.in-Ok.book.opening;
    now = c.in-Ok.book.keeper;
    honest = c.in-Ok.ensures.honest;
    count_is = c.in-Ok-share.ensures.count;
    fresh = c.in-Ok-share.ensures.fresh;
    opens = c.in-Ok.ensures.opens;
  };
  again = c.in-Ok.ensures.again;
}

pub returns-in-Err-share-clause-refused : goal.returns-in-Err-share-clause-refused
returns-in-Err-share-clause-refused g c =
    inr (omega arith, inr (record { may = c.in-Ok.ensures.may; refused = inl c.in-Err-share.ensures.refused }))
