use Rattle.cursor.proofs.cursor.choice_at.Goals as goal

pub chosen-requires : goal.chosen-requires
chosen-requires g c = (_, _, c.in_ok-record.ensures.formed)
