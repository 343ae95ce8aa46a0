mod MapLaws
mod StoreLaws
mod CallLaws
mod ReadLaws
