use Rattle.std.proofs.lemmas.Cmp.{nat_list_cmp_total}
use Rattle.labels.specs.Laws.{labels_total}
use Rattle.remote_listings.proofs.InOrder.{has_all, labels_same, rises, text_same}
use Rattle.remote_listings.proofs.laws.listing_laws.Goals as goal

pub returns-clause-texts_rise : goal.returns-clause-texts_rise
returns-clause-texts_rise c = rises nat_list_cmp_total

pub returns-clause-sets_rise : goal.returns-clause-sets_rise
returns-clause-sets_rise c = rises labels_total

pub returns-clause-texts_stand : goal.returns-clause-texts_stand
returns-clause-texts_stand c = has_all text_same

pub returns-clause-sets_stand : goal.returns-clause-sets_stand
returns-clause-sets_stand c = has_all labels_same
