mod HeadedSamples
mod StatedSamples
mod LentSamples
